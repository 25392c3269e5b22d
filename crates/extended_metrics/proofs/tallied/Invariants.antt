-- `extended_metrics::tallied` meets its contract. After i turns the first i slots are counted. Assumes nothing.
use mathlib.Core.Path.{◌≡◌}
use Rattle.extended_metrics.specs.Metrics.{tally_of}
use Rattle.extended_metrics.specs.Bounds.{Below}
use Rattle.extended_metrics.proofs.tallied.Given as goal

abbrev pub invariant-loop-slot : goal.invariant-loop-slot
invariant-loop-slot l = (l.t ≡ tally_of l.slots l.slot-index) × Below l.t l.slot-index
