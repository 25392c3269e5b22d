-- `start::first_pass` meets its contract: the first `row` rows are gone through. Assumes nothing.
use mathlib.Core.Path.{◌≡◌}
use Rattle.start.specs.Steps.{pairs_of, pair_rows}
use Rattle.start.proofs.first_pass.Given as goal

abbrev pub invariant-loop-row : goal.invariant-loop-row
invariant-loop-row l = pairs_of l.rows l.cols ≡ pair_rows l.c l.n l.row (pairs_of l.initial.rows l.initial.cols)
