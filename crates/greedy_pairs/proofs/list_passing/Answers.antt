-- The front of order lists the places before the index that pass.
use Rattle.std.proofs.Common.{refl, sym, ◌∙◌, length, arith}
use Rattle.greedy_pairs.proofs.Listing as law
use Rattle.greedy_pairs.proofs.list_passing.Goals as goal
use Rattle.greedy_pairs.proofs.list_passing.Goals.{then-passes, else-passes}

pub loop-i-init : goal.loop-i-init
loop-i-init g c = (c.requires.callable, omega arith, λ test h. law.starts test c.args.entries.now (length c.args.order.now) c.args.order.now refl)

pub loop-i-preserved : goal.loop-i-preserved
loop-i-preserved g c = (
  c.requires.callable,
  elim c.if-passes.branch [ then-passes v ↦ omega arith | else-passes v ↦ omega arith ],
  λ test h.
      let xs = c.args.entries.now in
      let room = length c.args.order.now in
      elim c.if-passes.branch [
        | then-passes v ↦ law.lists test xs room c.loop-i.order c.loop-i.used c.loop-i.i (c.loop-i.invariant.2 test h) c.if-passes.order c.if-passes.used c.loop-i-test.true c.requires.room
            (sym (h _ _ c.passes.ensures) ∙ v.if-passes.true) v.order-is v.used-is
        | else-passes v ↦ law.passes_by test xs room c.loop-i.order c.loop-i.used c.loop-i.i (c.loop-i.invariant.2 test h) c.if-passes.order c.if-passes.used c.loop-i-test.true
            (sym (h _ _ c.passes.ensures) ∙ v.if-passes.false) v.order-is v.used-is
      ],
)
