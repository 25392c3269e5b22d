-- `counts::add` meets its contract. Assumes nothing.
use mir.Facts.{to_z-of_z}
use Rattle.counts.proofs.Sums.{small, sum_fits}
use Rattle.counts.proofs.add.Goals as goal

pub overflow_add-result : goal.overflow_add-result
overflow_add-result c =
    simp (to_z-of_z c.ranges.n, small c.args.more c.requires.more_bound)
    (sum_fits c.args.n c.args.more c.requires.more_bound c.ranges.n c.requires.more_value)

pub returns : goal.returns
returns c =
    simp (
      to_z-of_z c.ranges.n,
      small c.args.more c.requires.more_bound,
      to_z-of_z (sum_fits c.args.n c.args.more c.requires.more_bound c.ranges.n c.requires.more_value),
    )
