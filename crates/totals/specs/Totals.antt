-- Document 01, refusals 1 and 7 for the six counters of a state, and what an accepted frame adds to them.
use Rattle.std.specs.Prelude.{Bool, ◌&&◌, cond, List, ℕ, ◌≤◌, ℤ, pos, ◌+ℤ◌, Float}
use Rattle.std.specs.Int.Signed.{non_neg}
use Rattle.floats.specs.Float.{zero64}
use Rattle.counts.specs.Counts.{room_for}
use Rattle.slots.specs.declared.Slot.{Slot}
use Rattle.rows.specs.declared.ExtendedMOTAccumulator.{ExtendedMOTAccumulator}
use Rattle.totals.specs.declared.Shares.{Shares}
use Rattle.totals.specs.declared.Totals.{Totals}

-- ---- refusal 1: a negative counter
unfoldable pub totals_sound : ExtendedMOTAccumulator → Bool
totals_sound s =
    (non_neg s.frame_id && (non_neg s.num_matches && non_neg s.num_misses))
    && (non_neg s.num_false_positives && (non_neg s.num_switches && non_neg s.num_objects))

-- the frame's number: one more; where that would pass, the frame is refused in the end
unfoldable pub next_frame : ℤ → ℤ
next_frame frame = cond (room_for frame 1) (frame +ℤ pos 1) frame

-- ---- a state: its table, and the totals beside it
abbrev pub totals_of : ExtendedMOTAccumulator → Totals
totals_of s =
    record {
      used = s.used;
      frame_id = s.frame_id;
      num_matches = s.num_matches;
      num_misses = s.num_misses;
      num_false_positives = s.num_false_positives;
      num_switches = s.num_switches;
      num_objects = s.num_objects;
      total_distance = s.total_distance;
    }

abbrev pub state_with : List Slot → Totals → ExtendedMOTAccumulator
state_with slots t =
    record {
      slots = slots;
      used = t.used;
      frame_id = t.frame_id;
      num_matches = t.num_matches;
      num_misses = t.num_misses;
      num_false_positives = t.num_false_positives;
      num_switches = t.num_switches;
      num_objects = t.num_objects;
      total_distance = t.total_distance;
    }

abbrev pub new_totals : Totals
new_totals =
    record {
      used = 0;
      frame_id = pos 0;
      num_matches = pos 0;
      num_misses = pos 0;
      num_false_positives = pos 0;
      num_switches = pos 0;
      num_objects = pos 0;
      total_distance = zero64;
    }

-- ---- the counters
pub record Few (by : Shares) : Type 0 where
  pub matches : by.matches ≤ 64
  pub misses : by.misses ≤ 64
  pub false_positives : by.false_positives ≤ 64
  pub switches : by.switches ≤ 64
  pub objects : by.objects ≤ 64

abbrev pub shares_of : ℕ → ℕ → ℕ → ℕ → ℕ → Shares
shares_of pairs lefts extra switches objects =
    record { matches = pairs; misses = lefts; false_positives = extra; switches = switches; objects = objects }

-- refusal 7 is for a counter that would pass: none does
unfoldable pub room_for_all : ExtendedMOTAccumulator → Shares → Bool
room_for_all t by =
    (room_for t.frame_id 1 && (room_for t.num_matches by.matches && room_for t.num_misses by.misses))
    && (room_for t.num_false_positives by.false_positives
    && (room_for t.num_switches by.switches && room_for t.num_objects by.objects))

-- "adds 1 each accepted call"; "num_objects rises by the number of truth ids"
abbrev pub raised_totals : Totals → Shares → Float → Totals
raised_totals t by distance =
    record {
      used = t.used;
      frame_id = t.frame_id +ℤ pos 1;
      num_matches = t.num_matches +ℤ pos by.matches;
      num_misses = t.num_misses +ℤ pos by.misses;
      num_false_positives = t.num_false_positives +ℤ pos by.false_positives;
      num_switches = t.num_switches +ℤ pos by.switches;
      num_objects = t.num_objects +ℤ pos by.objects;
      total_distance = distance;
    }
