-- Document 01, "Lifecycles and events": the booking of a frame's rows, on trial. Refusals 5 and 7 are read off its flags.
use Rattle.std.specs.Prelude.{Option, None, Some, Result, Ok, Err}
use Rattle.std.specs.Prelude.{Bool, true, false, ◌||◌, cond, List, ℕ, zero, suc, ◌+◌, ◌-◌, ◌<◌, ◌≤◌, ltb, ℤ, pos, get_or, set, replicate}
use Rattle.floats.specs.Float.{zero64}
use Rattle.counts.specs.Counts.{one_if}
use Rattle.slots.specs.declared.Slot.{Slot}
use Rattle.ids.specs.declared.Lookup.{Lookup}
use Rattle.ids.specs.declared.Lookup.TheVariants.{At, Absent}
use Rattle.ids.specs.Ids.{seek_of}
use Rattle.refusals.specs.declared.Refusal.{Refusal}
use Rattle.refusals.specs.declared.Refusal.TheVariants.{FullTable, Overflow}
use Rattle.slots.specs.Slots.{BookedSlot, new_slot, no_slot, ids_of, booked_slot}
use Rattle.rows.specs.declared.ExtendedMOTAccumulator.{ExtendedMOTAccumulator}
use Rattle.rows.specs.declared.Row.{Row}
use Rattle.rows.specs.declared.Place.{Place}
use Rattle.rows.specs.declared.Step.{Step}
use Rattle.rows.specs.declared.Trial.{Trial}

-- frame 0, nothing counted, no slot in use
abbrev pub new_state : ExtendedMOTAccumulator
new_state =
    record {
      slots = replicate 256 no_slot;
      used = 0;
      frame_id = pos 0;
      num_matches = pos 0;
      num_misses = pos 0;
      num_false_positives = pos 0;
      num_switches = pos 0;
      num_objects = pos 0;
      total_distance = zero64;
    }

-- ---- a pairing: its pairs by row and column, and the rows that are left
-- what its lists obey: places of the two runs of ids, and no more rows than 64
pub record Lies (gt pred : ℕ) (pair_rows pair_cols left_rows : List ℕ) (pairs lefts : ℕ) : Type 0 where
  pub few : pairs + lefts ≤ 64
  pub row_in : (k : ℕ) → k < pairs → get_or pair_rows k 0 < gt
  pub col_in : (k : ℕ) → k < pairs → get_or pair_cols k 0 < pred
  pub left_in : (k : ℕ) → k < lefts → get_or left_rows k 0 < gt

-- "matched rows are booked before missed rows": row k in the order of booking
unfoldable pub row_at : List ℤ → List ℤ → List ℕ → List ℕ → List ℕ → ℕ → ℕ → Row
row_at gt pred pair_rows pair_cols left_rows pairs k =
    cond (ltb k pairs) (record { id = get_or gt (get_or pair_rows k 0) (pos 0); to = Some (get_or pred (get_or pair_cols k 0) (pos 0)) })
    (record { id = get_or gt (get_or left_rows (k - pairs) 0) (pos 0); to = None })

-- ---- one row
-- where a row is booked: at the place of its id, at a fresh one after the used ones, or nowhere
pub record Spot : Type 0 where
  pub at : ℕ
  pub fresh : Bool
  pub full : Bool

-- the id's own place, else the one after the used ones, else none: full
unfoldable pub spot_of : Lookup → ℕ → Spot
spot_of (At k) used = record { at = k; fresh = false; full = false }
spot_of Absent used = cond (ltb used 256) (record { at = used; fresh = true; full = false }) (record { at = 0; fresh = false; full = true })

abbrev pub row_spot : ExtendedMOTAccumulator → Row → Spot
row_spot t r = spot_of (seek_of (ids_of t.slots t.used) r.id) t.used

abbrev pub step_to : BookedSlot → ℕ → Step
step_to b used = record { slot = b.slot; used = used; full = false; over = b.over; switched = b.switched }

-- the slot that stood there or a new one, booked; where there is no place all stays as it is
unfoldable pub step_of : Spot → Slot → ℕ → Row → ℤ → Step
step_of spot old used r frame =
    cond spot.full (record { slot = old; used = used; full = true; over = false; switched = false })
    (cond spot.fresh (step_to (booked_slot (new_slot r.id frame) r.to frame) (used + 1))
    (step_to (booked_slot old r.to frame) used))

abbrev pub row_step : ExtendedMOTAccumulator → Row → ℤ → Step
row_step t r frame = step_of (row_spot t r) (get_or t.slots (row_spot t r).at no_slot) t.used r frame

abbrev pub with_slot : ExtendedMOTAccumulator → ℕ → Slot → ℕ → ExtendedMOTAccumulator
with_slot s k x used =
    record {
      slots = set s.slots k x;
      used = used;
      frame_id = s.frame_id;
      num_matches = s.num_matches;
      num_misses = s.num_misses;
      num_false_positives = s.num_false_positives;
      num_switches = s.num_switches;
      num_objects = s.num_objects;
      total_distance = s.total_distance;
    }

-- ---- all rows, in order, from the state that the one before left
abbrev pub trial_of : ExtendedMOTAccumulator → Bool → Bool → ℕ → Trial
trial_of s full over switches = record { state = s; full = full; over = over; switches = switches }

abbrev pub stepped : Trial → ℕ → Step → Trial
stepped t at p =
    trial_of (with_slot t.state at p.slot p.used) (t.full || p.full) (t.over || p.over) (t.switches + one_if p.switched)

unfoldable pub book_row : ℤ → Row → Trial → Trial
book_row frame r t = stepped t (row_spot t.state r).at (row_step t.state r frame)

unfoldable pub trial_after : (ℕ → Row) → ℤ → ExtendedMOTAccumulator → ℕ → Trial
trial_after rows frame s zero = trial_of s false false 0
trial_after rows frame s (suc k) = book_row frame (rows k) (trial_after rows frame s k)

-- 5 before 7, by what came of all rows
abbrev pub trial_outcome : Trial → Result (Unit {0}) Refusal
trial_outcome t = cond t.full (Err FullTable) (cond t.over (Err Overflow) (Ok tt))

-- ---- the same of what the code answers
abbrev pub spot_answer : Option Place → Spot
spot_answer None = record { at = 0; fresh = false; full = true }
spot_answer (Some p) = record { at = p.at; fresh = p.fresh; full = false }
