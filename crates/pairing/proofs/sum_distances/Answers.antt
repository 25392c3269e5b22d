-- `pairing::sum_distances` meets its contract. Assumes nothing.
use Rattle.pairing.proofs.Sums.{sum_none, sum_more}
use Rattle.pairing.proofs.sum_distances.Goals as goal

pub loop-k-init : goal.loop-k-init
loop-k-init c = sum_none _ _ _ _ _

pub loop-k-preserved : goal.loop-k-preserved
loop-k-preserved c =
    sum_more c.args.m.now c.args.w c.args.rows.now c.args.cols.now c.args.total c.loop-k.k c.loop-k.sum c.loop-k.invariant
