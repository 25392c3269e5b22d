-- `sides::clamp` meets its contract. Assumes nothing.
use lib.Ieee.{of_bits}
use Rattle.sides.proofs.OneTest.{clamp_is_max}
use Rattle.sides.proofs.clamp.Goals as goal

pub returns-then-side : goal.returns-then-side
unfolding of_bits
returns-then-side c = rw c.if-side.true at (clamp_is_max c.args.side)

pub returns-else-side : goal.returns-else-side
unfolding of_bits
returns-else-side c = rw c.if-side.false at (clamp_is_max c.args.side)
