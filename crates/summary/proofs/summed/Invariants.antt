-- `summary::summed` meets its contract. After i turns the first i slots are summed. Assumes nothing.
use mathlib.Core.Path.{◌≡◌}
use Rattle.summary.specs.Coverage.{Below, covered_of}
use Rattle.summary.proofs.summed.Given as goal

abbrev pub invariant-loop-slot : goal.invariant-loop-slot
invariant-loop-slot l = (l.c ≡ covered_of l.slots l.slot-index) × Below l.c l.slot-index
