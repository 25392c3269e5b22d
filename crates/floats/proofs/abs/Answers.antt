-- `floats::abs` meets its contract. Assumes nothing.
use lib.Ieee.{of_bits}
use Rattle.floats.specs.Float.{abs_of}
use Rattle.floats.proofs.abs.Goals as goal

pub returns-then-x : goal.returns-then-x
unfolding abs_of of_bits
returns-then-x c = rw c.if-x.true

pub returns-else-x : goal.returns-else-x
unfolding abs_of of_bits
returns-else-x c = rw c.if-x.false
