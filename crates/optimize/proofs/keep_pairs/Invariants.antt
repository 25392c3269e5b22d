-- `optimize::keep_pairs` meets its contract: the pairs of the first `row` rows are listed. Assumes nothing.
use Rattle.optimize.specs.Inner.{Listed}
use Rattle.optimize.proofs.keep_pairs.Given as goal

abbrev pub invariant-loop-row : goal.invariant-loop-row
invariant-loop-row l = Listed l.cost l.cols l.max_cost l.row_match l.row l.kept.assignments l.kept.used l.kept.rows l.kept.cols
