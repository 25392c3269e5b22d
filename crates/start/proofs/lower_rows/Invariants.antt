-- `start::lower_rows` meets its contract: the first `row` rows are lowered. Assumes nothing.
use mathlib.Core.Path.{◌≡◌}
use Rattle.start.specs.Steps.{rows_lowered}
use Rattle.start.proofs.lower_rows.Given as goal

abbrev pub invariant-loop-row : goal.invariant-loop-row
invariant-loop-row l = l.c ≡ rows_lowered l.n l.row l.initial.c
