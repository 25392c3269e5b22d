-- Document 01, "Lifecycles and events" and refusals 1 and 7: the classes of an accumulator's lifecycles, and their fragmentations.
use Rattle.std.specs.Prelude.{cond, List, ℕ, zero, suc, ◌+◌, ℤ, pos, nat_abs, get_or}
use Rattle.counts.specs.Counts.{fits}
use Rattle.lifecycle.specs.declared.TrackLifecycle.{TrackLifecycle}
use Rattle.lifecycle_parts.specs.declared.Class.{Class}
use Rattle.lifecycle.specs.Lifecycle.{shared_of, class_of, class_totals}
use Rattle.slots.specs.declared.Slot.{Slot}
use Rattle.slots.specs.Slots.{no_slot}
use Rattle.rows.specs.declared.ExtendedMOTAccumulator.{ExtendedMOTAccumulator}
use Rattle.frame.specs.Frame.{sound_state}
use Rattle.extended_metrics.specs.declared.Tally.{Tally}
use Rattle.extended_metrics.specs.declared.ExtendedMetrics.{ExtendedMetrics}

abbrev pub tally_at : ℕ → ℕ → ℕ → ℕ → Tally
tally_at tracked partially lost fragmentations = record { tracked = tracked; partially = partially; lost = lost; fragmentations = fragmentations }

-- one lifecycle of a class
unfoldable pub class_tally : Class → Tally
class_tally c = tally_at (class_totals c).tracked (class_totals c).partially (class_totals c).lost 0

abbrev pub plus : Tally → Tally → ℕ → Tally
plus t c more = tally_at (t.tracked + c.tracked) (t.partially + c.partially) (t.lost + c.lost) (t.fragmentations + more)

-- one lifecycle more: by its coverage, and its fragmentations, of which no sound lifecycle has a negative count
unfoldable pub added_of : Tally → TrackLifecycle → Tally
added_of t it = plus t (class_tally (class_of (shared_of it))) (nat_abs it.fragmentations)

-- one lifecycle alone
abbrev pub lone_of : TrackLifecycle → Tally
lone_of it =
    tally_at (class_tally (class_of (shared_of it))).tracked (class_tally (class_of (shared_of it))).partially (class_tally (class_of (shared_of it))).lost (nat_abs it.fragmentations)

-- the first k slots
unfoldable pub tally_of : List Slot → ℕ → Tally
tally_of slots zero = tally_at 0 0 0 0
tally_of slots (suc k) = added_of (tally_of slots k) (get_or slots k no_slot).lifecycle

abbrev pub metrics_at : ℕ → ℤ → ℤ → ℤ → ℤ → ExtendedMetrics
metrics_at number tracked lost partially fragmentations =
    record {
      number = number;
      mostly_tracked = tracked;
      mostly_lost = lost;
      partially_tracked = partially;
      total_fragmentations = fragmentations;
    }

-- beside a refusal every other result is 0
abbrev pub refused_at : ℕ → ExtendedMetrics
refused_at number = metrics_at number (pos 0) (pos 0) (pos 0) (pos 0)

-- 7: the summed fragmentations would pass
unfoldable pub summed_of : Tally → ExtendedMetrics
summed_of t = cond (fits (pos t.fragmentations)) (metrics_at 0 (pos t.tracked) (pos t.lost) (pos t.partially) (pos t.fragmentations)) (refused_at 7)

-- THE METRICS of any state
unfoldable pub metrics_of : ExtendedMOTAccumulator → ExtendedMetrics
metrics_of s = cond (sound_state s) (summed_of (tally_of s.slots s.used)) (refused_at 1)
