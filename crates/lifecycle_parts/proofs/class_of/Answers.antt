-- `lifecycle_parts::class_of` meets its contract. Assumes nothing.
use lib.Ieee.{of_bits}
use Rattle.lifecycle_parts.specs.Parts.{class_of}
use Rattle.lifecycle_parts.proofs.class_of.Goals as goal

pub returns-then-coverage : goal.returns-then-coverage
unfolding class_of of_bits
returns-then-coverage c = rw c.if-coverage.true

pub returns-then-coverage-2 : goal.returns-then-coverage-2
unfolding class_of of_bits
returns-then-coverage-2 c = rw (c.if-coverage.false, c.if-coverage-2.true)

pub returns : goal.returns
unfolding class_of of_bits
returns c = rw (c.if-coverage.false, c.if-coverage-2.false)
