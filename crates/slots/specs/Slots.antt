-- Document 01, "Lifecycles and events": the slot of a truth id, its booking, and refusal 1 for a table.
use Rattle.std.specs.Prelude.{Option, None, Some}
use Rattle.std.specs.Prelude.{Bool, true, false, not, ◌&&◌, cond, List, [], ◌∷◌, ◌++◌, map, ℕ, ◌-◌, leb, ℤ, pos, take, replicate}
use Rattle.counts.specs.Counts.{same_id}
use Rattle.ids.specs.Ids.{distinct_of}
use Rattle.lifecycle.specs.declared.TrackLifecycle.{TrackLifecycle}
use Rattle.lifecycle.specs.Lifecycle.{fresh, matched_after, missed_after, room_to_match, room_to_miss, sound_counts}
use Rattle.slots.specs.declared.Slot.{Slot}
use Rattle.slots.specs.declared.Booked.{Booked}

abbrev pub new_slot : ℤ → ℤ → Slot
new_slot id frame = record { lifecycle = fresh id frame; partner = None }

-- what stands past the end of a list of slots; no definition turns on it
abbrev pub no_slot : Slot
no_slot = new_slot (pos 0) (pos 0)

abbrev pub id_of : Slot → ℤ
id_of s = s.lifecycle.gt_id

-- ---- the ids
-- the ids of the first used slots
abbrev pub ids_of : List Slot → ℕ → List ℤ
ids_of slots used = map id_of (take used slots)

-- those ids over 256 places, and 0 in the places after them
abbrev pub ids_filled : List Slot → ℕ → List ℤ
ids_filled slots used = ids_of slots used ++ replicate (256 - used) (pos 0)

-- ---- the booking of one slot
-- "a switch is a match to a different id from that truth id's last one, however many misses lie between"
abbrev pub switches : Option ℤ → ℤ → Bool
switches None to = false
switches (Some before) to = not (same_id before to)

-- a slot after a frame: as it was, and over, where a count would pass
pub record BookedSlot : Type 0 where
  pub slot : Slot
  pub over : Bool
  pub switched : Bool

-- the same of an answer of the code, given the slot that came
abbrev pub slot_answer : Slot → Option Booked → BookedSlot
slot_answer s None = record { slot = s; over = true; switched = false }
slot_answer s (Some b) = record { slot = b.slot; over = false; switched = b.switched }

-- with room the next lifecycle; without it the slot as it was, marked as over
abbrev pub booked_if : Bool → Slot → TrackLifecycle → Option ℤ → Bool → BookedSlot
booked_if room slot next partner switched =
    cond room (record { slot = record { lifecycle = next; partner = partner }; over = false; switched = switched })
    (record { slot = slot; over = true; switched = false })

-- a miss keeps the partner
unfoldable pub missed_slot : Slot → ℤ → BookedSlot
missed_slot s frame = booked_if (room_to_miss s.lifecycle) s (missed_after s.lifecycle frame) s.partner false

unfoldable pub matched_slot : Slot → ℤ → ℤ → BookedSlot
matched_slot s to frame = booked_if (room_to_match s.lifecycle) s (matched_after s.lifecycle frame) (Some to) (switches s.partner to)

abbrev pub booked_slot : Slot → Option ℤ → ℤ → BookedSlot
booked_slot s None frame = missed_slot s frame
booked_slot s (Some to) frame = matched_slot s to frame

-- ---- refusal 1
-- no negative count in the slots
unfoldable pub counts_sound : List Slot → Bool
counts_sound [] = true
counts_sound (s ∷ ss) = sound_counts s.lifecycle && counts_sound ss

-- a used count within the capacity, no negative count, and no id twice, in the used places
unfoldable pub sound_of : List Slot → ℕ → Bool
sound_of slots used = leb used 256 && (counts_sound (take used slots) && distinct_of (ids_of slots used))
