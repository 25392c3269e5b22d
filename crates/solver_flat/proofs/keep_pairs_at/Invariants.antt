-- `solver_flat::keep_pairs_at` meets its contract: the pairs of the first `row` rows are listed. Assumes nothing.
use Rattle.solver_flat.specs.Inner.{PairsAt}
use Rattle.solver_flat.proofs.keep_pairs_at.Given as goal

abbrev pub invariant-loop-row : goal.invariant-loop-row
invariant-loop-row l = PairsAt l.cost l.cols l.max_cost l.row_match l.row l.used l.matched_rows l.matched_cols l.initial.out l.out
