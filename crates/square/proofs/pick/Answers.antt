-- `square::pick` meets its contract: those below `i` are picked. Assumes nothing.
use Prim.Native.Nat.{ℕ}
use mathlib.Core.Path.{refl, sym, ap, ◌∙◌}
use mathlib.Core.Bool.{Bool, beq, false}
use native.Mathlib.Omega.{arith}
use lib.ListN.{length, length-take, length-replicate}
use lib.Seq.{get_or-take}
use Rattle.square.proofs.Picking as code
use Rattle.square.proofs.pick.Goals as goal
use Rattle.square.proofs.pick.Goals.{else-mark-wanted, then-mark-wanted}

pub loop-i-init : goal.loop-i-init
loop-i-init c = code.picked_at c.requires.1 refl (code.picked_none _ _)

pub offset_bounds-places-used : goal.offset_bounds-places-used
offset_bounds-places-used c = omega (arith, code.picked_few _ _ _ _ _ c.loop-i.invariant)

pub bounds-places-used : goal.bounds-places-used
bounds-places-used c =
    omega (arith, code.picked_few _ _ _ _ _ c.loop-i.invariant, length-take c.args.n c.args.marks.now, ap length c.requires.1, length-replicate {A = ℕ} 64 0)

pub overflow_add-used : goal.overflow_add-used
overflow_add-used c = omega (arith, code.picked_few _ _ _ _ _ c.loop-i.invariant)

pub loop-i-preserved : goal.loop-i-preserved
loop-i-preserved c =
    let v = c.loop-i.invariant in
    let below = length-take c.args.n c.args.marks.now in
    let is = ap (λ (b : Bool). beq b c.args.wanted) (sym (get_or-take c.args.n c.args.marks.now c.loop-i.i false (omega arith))) in
    elim c.if-mark-wanted.branch [
      | then-mark-wanted w ↦ code.picked_at w.places-is w.used-is (code.picked_yes _ _ _ _ _ v (omega arith) (is ∙ w.if-mark-wanted.true))
      | else-mark-wanted w ↦ code.picked_at w.places-is w.used-is (code.picked_no _ _ _ _ _ v (is ∙ w.if-mark-wanted.false))
    ]
