-- Document 01, "Lifecycles and events" and refusals 5 and 7: a frame whose pairing is handed in.
use Rattle.std.specs.Prelude.{Result, Ok, Err}
use Rattle.std.specs.Prelude.{Bool, ◌&&◌, cond, List, ℕ, ◌+◌, ◌≤◌, eqb, ℤ, pos, ◌+ℤ◌, Float}
use Rattle.std.specs.Int.Signed.{non_neg}
use Rattle.floats.specs.Float.{zero64}
use Rattle.counts.specs.Counts.{room_for}
use Rattle.slots.specs.declared.Slot.{Slot}
use Rattle.slots.specs.Slots.{sound_of}
use Rattle.rows.specs.declared.ExtendedMOTAccumulator.{ExtendedMOTAccumulator}
use Rattle.rows.specs.declared.Row.{Row}
use Rattle.refusals.specs.declared.Refusal.{Refusal}
use Rattle.refusals.specs.Refusals.{number_of}
use Rattle.rows.specs.declared.Trial.{Trial}
use Rattle.rows.specs.Rows.{trial_after}
use Rattle.totals.specs.declared.Shares.{Shares}
unfoldable pub use Rattle.totals.specs.Totals.{totals_sound, next_frame, room_for_all}
pub use Rattle.totals.specs.Totals.{totals_of, state_with, new_totals, Few, shares_of, raised_totals}
use Rattle.frame.specs.declared.Booked.{Booked}

-- ---- refusal 1: a negative counter, or a table that is not sound
unfoldable pub sound_state : ExtendedMOTAccumulator → Bool
sound_state s = totals_sound s && sound_of s.slots s.used

-- ---- the counters, raised on a table
unfoldable pub raised_by : ExtendedMOTAccumulator → Shares → Float → ExtendedMOTAccumulator
raised_by t by distance = state_with t.slots (raised_totals (totals_of t) by distance)

-- ---- the number, lowest first, and the state: beside a refusal the one that came
abbrev pub trial_no : Trial → Bool → ℕ
trial_no t room = cond t.full 5 (cond t.over 7 (cond room 0 7))

abbrev pub closed_at : ℕ → ExtendedMOTAccumulator → ExtendedMOTAccumulator → Booked
closed_at number s next = record { number = number; state = cond (eqb number 0) next s }

unfoldable pub closed : ExtendedMOTAccumulator → Trial → Shares → Float → Booked
closed s t by distance = closed_at (trial_no t (room_for_all t.state by)) s (raised_by t.state by distance)

abbrev pub framed : ExtendedMOTAccumulator → ℕ → ℕ → ℕ → ℕ → Float → Trial → Booked
framed s pairs lefts extra objects distance t = closed s t (shares_of pairs lefts extra t.switches objects) distance

unfoldable pub frame_of : ExtendedMOTAccumulator → (ℕ → Row) → ℕ → ℕ → ℕ → ℕ → Float → Booked
frame_of s rows pairs lefts extra objects distance =
    framed s pairs lefts extra objects distance (trial_after rows (next_frame s.frame_id) s (pairs + lefts))

-- the same of what the code has in between: why the frame is refused, or the state after it
abbrev pub frame_answer : ExtendedMOTAccumulator → Result ExtendedMOTAccumulator Refusal → Booked
frame_answer s (Ok next) = record { number = 0; state = next }
frame_answer s (Err r) = record { number = number_of r; state = s }
