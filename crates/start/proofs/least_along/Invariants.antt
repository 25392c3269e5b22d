-- `start::least_along` meets its contract: `least` is the minimum of the first `t` places. Assumes nothing.
use mathlib.Core.Path.{◌≡◌}
use Rattle.square.specs.Square.{along}
use Rattle.start.specs.Steps.{least_along}
use Rattle.start.proofs.least_along.Given as goal

abbrev pub invariant-loop-t : goal.invariant-loop-t
invariant-loop-t l = l.least ≡ least_along (along l.first l.step) l.t l.c
