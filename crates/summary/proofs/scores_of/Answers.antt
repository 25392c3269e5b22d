-- `summary::scores_of` meets its contract. Assumes nothing.
use mathlib.Core.Path.{sym, ◌∙◌}
use Rattle.summary.proofs.Sums.{few_then}
use Rattle.summary.proofs.scores_of.Goals as goal

pub scores_for-requires : goal.scores_for-requires
scores_for-requires c = few_then _ (sym c.few.ensures ∙ c.if-few.true)
