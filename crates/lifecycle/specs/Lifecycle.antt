-- Document 01, "Lifecycles and events": a definition for each sentence on a lifecycle, and its refusals 1 and 7. What a
-- fragmentation, a coverage and a class is says `lifecycle_parts`, passed on.
use Rattle.std.specs.Prelude.{Result, Ok, Err}
use Rattle.std.specs.Prelude.{Bool, true, false, ◌&&◌, cond, ℕ, ℤ, pos, ◌+ℤ◌, Float}
use Rattle.std.specs.Int.Signed.{non_neg}
use Rattle.floats.specs.Float.{zero64}
use Rattle.counts.specs.Counts.{fits, room_for, one_if}
pub use Rattle.lifecycle_parts.specs.Parts.{mostly, hardly, Totals, class_no, class_totals}
unfoldable pub use Rattle.lifecycle_parts.specs.Parts.{fragments, share_of, class_of}
use Rattle.refusals.specs.declared.Refusal.{Refusal}
use Rattle.refusals.specs.declared.Refusal.TheVariants.{Unsound}
use Rattle.refusals.specs.Refusals.{number_of}
use Rattle.lifecycle.specs.declared.TrackLifecycle.{TrackLifecycle}
use Rattle.lifecycle.specs.declared.Updated.{Updated}
use Rattle.lifecycle.specs.declared.Coverage.{Coverage}

abbrev pub fresh : ℤ → ℤ → TrackLifecycle
fresh id frame =
    record {
      gt_id = id;
      first_frame = frame;
      last_frame = frame;
      tracked_frames = pos 0;
      detected_frames = pos 0;
      fragmentations = pos 0;
      was_matched = false;
    }

-- "last frame set; tracked and detected up by 1; .. one fragmentation; mark matched"
unfoldable pub matched_after : TrackLifecycle → ℤ → TrackLifecycle
matched_after t frame =
    record {
      gt_id = t.gt_id;
      first_frame = t.first_frame;
      last_frame = frame;
      tracked_frames = t.tracked_frames +ℤ pos 1;
      detected_frames = t.detected_frames +ℤ pos 1;
      fragmentations = t.fragmentations +ℤ pos (one_if (fragments (t.detected_frames +ℤ pos 1) t.was_matched));
      was_matched = true;
    }

-- "last frame set, detected up by 1, mark cleared"
unfoldable pub missed_after : TrackLifecycle → ℤ → TrackLifecycle
missed_after t frame =
    record {
      gt_id = t.gt_id;
      first_frame = t.first_frame;
      last_frame = frame;
      tracked_frames = t.tracked_frames;
      detected_frames = t.detected_frames +ℤ pos 1;
      fragmentations = t.fragmentations;
      was_matched = false;
    }

-- ---- the numbers
-- refusal 1 is for a negative count: none of the three is
unfoldable pub sound_counts : TrackLifecycle → Bool
sound_counts t = non_neg t.tracked_frames && (non_neg t.detected_frames && non_neg t.fragmentations)

-- refusal 7 is for a count that would pass: none of those that a match raises, or a miss, does
unfoldable pub room_to_match : TrackLifecycle → Bool
room_to_match t =
    room_for t.tracked_frames 1
    && (room_for t.detected_frames 1
    && room_for t.fragmentations (one_if (fragments (t.detected_frames +ℤ pos 1) t.was_matched)))

unfoldable pub room_to_miss : TrackLifecycle → Bool
room_to_miss t = room_for t.detected_frames 1

-- none of a lifecycle's three counts has passed
unfoldable pub counts_fit : TrackLifecycle → Bool
counts_fit t = fits t.tracked_frames && (fits t.detected_frames && fits t.fragmentations)

-- 1 comes before 7
abbrev pub update_no : Bool → Bool → ℕ
update_no sound room = cond sound (cond room 0 7) 1

-- the next lifecycle at 0, the one that came beside a refusal
abbrev pub updated_at : Bool → Bool → TrackLifecycle → TrackLifecycle → Updated
updated_at sound room next t = record { number = update_no sound room; lifecycle = cond (sound && room) next t }

unfoldable pub update_matched_of : TrackLifecycle → ℤ → Updated
update_matched_of t frame = updated_at (sound_counts t) (room_to_match t) (matched_after t frame) t

unfoldable pub update_missed_of : TrackLifecycle → ℤ → Updated
update_missed_of t frame = updated_at (sound_counts t) (room_to_miss t) (missed_after t frame) t

-- ---- coverage
abbrev pub shared_of : TrackLifecycle → Float
shared_of t = share_of t.tracked_frames t.detected_frames

unfoldable pub coverage_of : TrackLifecycle → Coverage
coverage_of t = cond (sound_counts t) (record { number = 0; value = shared_of t }) (record { number = 1; value = zero64 })

-- ---- what the code has in between: why an update is refused, or what it leaves
abbrev pub check_of : TrackLifecycle → Result (Unit {0}) Refusal
check_of t = cond (sound_counts t) (Ok tt) (Err Unsound)

abbrev pub update_answer : TrackLifecycle → Result TrackLifecycle Refusal → Updated
update_answer t (Ok next) = record { number = 0; lifecycle = next }
update_answer t (Err r) = record { number = number_of r; lifecycle = t }
