-- `floats::is_zero` meets its contract. Assumes nothing.
use lib.Ieee.{of_bits}
use Rattle.floats.specs.Float.{is_zero}
use Rattle.floats.proofs.is_zero.Goals as goal

pub returns : goal.returns
unfolding is_zero of_bits
returns c = rw c.abs.ensures
