-- `start::less_by` meets its contract: the first `t` places are less by `least`. Assumes nothing.
use mathlib.Core.Path.{◌≡◌}
use Rattle.square.specs.Square.{along}
use Rattle.start.specs.Steps.{less_by}
use Rattle.start.proofs.less_by.Given as goal

abbrev pub invariant-loop-t : goal.invariant-loop-t
invariant-loop-t l = l.c ≡ less_by (along l.first l.step) l.t l.least l.initial.c
