-- `scores::f1` meets its contract. Assumes nothing.
use lib.Ieee.{of_bits}
use Rattle.scores.specs.Scores.{f1_of}
use Rattle.scores.proofs.f1.Goals as goal

pub returns-then-sum : goal.returns-then-sum
unfolding f1_of of_bits
returns-then-sum c = rw c.if-sum.true
