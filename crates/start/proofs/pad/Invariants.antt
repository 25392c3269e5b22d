-- `start::pad` meets its contract: the first `row` rows stand in the square. Assumes nothing.
use Prim.Native.Nat.{◌*◌, max}
use mathlib.Core.Path.{◌≡◌}
use lib.ListN.{replicate}
use Rattle.floats.specs.Float.{zero64}
use Rattle.square.specs.Square.{over}
use Rattle.start.specs.Steps.{entry}
use Rattle.start.proofs.pad.Given as goal

abbrev pub invariant-loop-row : goal.invariant-loop-row
invariant-loop-row l = l.c ≡ over l.row l.cols (λ i j _. entry l.m l.cols i j) (replicate (max l.rows l.cols * 64) zero64)
