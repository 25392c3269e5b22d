-- `hungarian::in_places` meets its contract: the square is the first part of an array of zeros. Assumes nothing.
use Prim.Native.Nat.{◌*◌}
use lib.Ieee.{of_bits}
use Rattle.hungarian.proofs.Solve.{zeros_part}
use Rattle.hungarian.proofs.in_places.Goals as goal

pub steps-requires : goal.steps-requires
unfolding of_bits
steps-requires g c = (c.requires.0, c.requires.1, c.requires.2, c.requires.3, zeros_part (c.args.n * 64) g.row.PLACES c.requires.4, c.requires.6)
