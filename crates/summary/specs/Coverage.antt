-- The coverage of all truth ids of an accumulator together: document 01's tracked / detected, over the sums of both.
use Rattle.std.specs.Prelude.{cond, List, ℕ, zero, suc, ◌+◌, ◌*◌, ◌/◌, ◌≤◌, eqb, leb, nat_abs, Float, get_or}
use Rattle.std.specs.Float.{binary64}
use Rattle.std.specs.Float.Ieee.{div}
use Rattle.floats.specs.Float.{zero64}
use Rattle.lifecycle.specs.declared.TrackLifecycle.{TrackLifecycle}
use Rattle.slots.specs.declared.Slot.{Slot}
use Rattle.slots.specs.Slots.{no_slot}
use Rattle.rows.specs.declared.ExtendedMOTAccumulator.{ExtendedMOTAccumulator}
use Rattle.scores.specs.Scores.{count64}
use Rattle.summary.specs.declared.Covered.{Covered}
use Rattle.summary.specs.declared.Running.{Running}

-- one lifecycle more; no sound one has a negative count
abbrev pub added_of : Covered → TrackLifecycle → Covered
added_of c it = record { tracked = c.tracked + nat_abs it.tracked_frames; detected = c.detected + nat_abs it.detected_frames }

-- the first k slots
unfoldable pub covered_of : List Slot → ℕ → Covered
covered_of slots zero = record { tracked = 0; detected = 0 }
covered_of slots (suc k) = added_of (covered_of slots k) (get_or slots k no_slot).lifecycle

-- how large the sums of k lifecycles can be: no part of document 01
pub record Below (c : Covered) (k : ℕ) : Type 0 where
  pub tracked : c.tracked ≤ k * 2147483648
  pub detected : c.detected ≤ k * 2147483648

unfoldable pub share_of : ℕ → ℕ → Float
share_of tracked detected = cond (eqb detected 0) zero64 (div binary64 (count64 tracked) (count64 detected))

-- the same in fortieths, rounded down
unfoldable pub marks_of : ℕ → ℕ → ℕ
marks_of tracked detected = cond (eqb detected 0) 0 (tracked * 40 / detected)

-- a used count past the table is none
unfoldable pub used_of : ℕ → ℕ
used_of used = cond (leb used 256) used 0

abbrev pub shown_as : Covered → Running
shown_as c = record { share = share_of c.tracked c.detected; marks = marks_of c.tracked c.detected }

abbrev pub running_of : ExtendedMOTAccumulator → Running
running_of s = shown_as (covered_of s.slots (used_of s.used))
