-- `start::pair_row` meets its contract: the first `col` columns are gone through. Assumes nothing.
use mathlib.Core.Path.{◌≡◌}
use Rattle.start.specs.Steps.{pairs_of, pair_row}
use Rattle.start.proofs.pair_row.Given as goal

abbrev pub invariant-loop-col : goal.invariant-loop-col
invariant-loop-col l = pairs_of l.rows l.cols ≡ pair_row l.c l.n l.row l.col (pairs_of l.initial.rows l.initial.cols)
