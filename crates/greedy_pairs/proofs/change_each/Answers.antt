-- The numbers before the index are changed, and the rest is to come.
use Rattle.std.proofs.Common.{ap, arith, set}
use Rattle.greedy_pairs.proofs.InPlace.{as_long, one_more}
use Rattle.greedy_pairs.proofs.change_each.Goals as goal

pub loop-x-preserved : goal.loop-x-preserved
loop-x-preserved g c = (
  c.loop-x.invariant.0,
  λ change h.
      let so_far = c.loop-x.invariant.1 change h in
      let long = as_long change c.args.run.now c.loop-x.run c.loop-x.x-index so_far in
      one_more change c.args.run.now c.loop-x.run _ c.loop-x.x-index (omega arith) (ap (λ y. set c.loop-x.run c.loop-x.x-index y) (h _ _ c.f.ensures)) so_far,
)
