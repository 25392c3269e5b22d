-- `extended_metrics::compute_extended_metrics` meets its contract. Assumes nothing.
use mathlib.Core.Path.{sym, ap, ◌∙◌}
use borrow.Author.Tests.{not-true, not-false}
use Rattle.extended_metrics.specs.Metrics.{summed_of, metrics_of}
use Rattle.extended_metrics.proofs.Laws as laws
use Rattle.extended_metrics.proofs.compute_extended_metrics.Goals as goal

pub returns-then-not-sound : goal.returns-then-not-sound
unfolding metrics_of
returns-then-not-sound c = rw (sym c.sound.ensures ∙ not-true _ c.if-not-sound.true-raw) c.refused.ensures

pub tallied-requires : goal.tallied-requires
tallied-requires c = laws.state_sound _ (sym c.sound.ensures ∙ not-false _ c.if-not-sound.false-raw)

pub summed-requires : goal.summed-requires
summed-requires c = laws.below_more _ _ c.tallied.ensures.1 (laws.state_sound _ (sym c.sound.ensures ∙ not-false _ c.if-not-sound.false-raw)).0

pub returns : goal.returns
unfolding metrics_of
returns c = rw (sym c.sound.ensures ∙ not-false _ c.if-not-sound.false-raw) (c.summed.ensures ∙ ap summed_of c.tallied.ensures.0)
