-- `counts::room_for` meets its contract. Assumes nothing.
use mir.Facts.{to_z-of_z}
use Rattle.counts.proofs.Sums.{small, top_less, room_is, top_fits}
use Rattle.counts.proofs.room_for.Goals as goal

pub overflow_sub-result : goal.overflow_sub-result
overflow_sub-result c = simp (small c.args.more c.requires, top_less c.args.more c.requires) (top_fits c.args.more)

pub returns : goal.returns
returns c =
    simp (
      to_z-of_z c.ranges.n,
      small c.args.more c.requires,
      top_less c.args.more c.requires,
      to_z-of_z (top_fits c.args.more),
    ) (room_is c.args.n c.args.more c.requires)
