-- `extended_metrics::summed` meets its contract. Assumes nothing.
use mathlib.Core.Path.{◌∙◌}
use Rattle.extended_metrics.proofs.Laws as laws
use Rattle.extended_metrics.proofs.summed.Goals as goal

pub returns-then-t-gt2147483647 : goal.returns-then-t-gt2147483647
returns-then-t-gt2147483647 c = c.refused.ensures ∙ laws.passed _ c.if-t-gt2147483647.true

pub returns : goal.returns
returns c = laws.answered _ c.if-t-gt2147483647.false c.requires
