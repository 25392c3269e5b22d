-- What the booking of a slot keeps: its id, sound counts, counts that fit, and tracked at most detected. Assumes nothing.
use Rattle.std.specs.Prelude.{Option, None, Some}
use mathlib.Core.Path.{◌≡◌, refl, sym, ◌∙◌}
use mathlib.Core.Bool.{Bool, true, false}
use lib.IntN.{ℤ}
use Rattle.lifecycle.specs.declared.TrackLifecycle.{TrackLifecycle}
use Rattle.lifecycle.specs.Lifecycle.{sound_counts, counts_fit, matched_after, missed_after, room_to_match, room_to_miss}
use Rattle.lifecycle.specs.Tracked.{Within}
use Rattle.lifecycle.proofs.Kept.{match_id, miss_id, match_sound, miss_sound, match_within, miss_within}
use Rattle.lifecycle.proofs.Final.{match_final, miss_final}
use Rattle.slots.specs.declared.Slot.{Slot}
use Rattle.slots.specs.Slots.{id_of, booked_if, booked_slot, missed_slot, matched_slot, switches}

-- ---- the lifecycle is the one that came, or the next one, where there is room for it
by_room : (P : TrackLifecycle → Type 0) (room t : Bool) → room ≡ t → (s : Slot) (next : TrackLifecycle) (p : Option ℤ) (b : Bool) → P s.lifecycle → (room ≡ true → P next)
    → P (booked_if t s next p b).slot.lifecycle
by_room P room true e s next p b old new = new e
by_room P room false e s next p b old new = old

pub booked_keeps : (P : TrackLifecycle → Type 0) (s : Slot) (to : Option ℤ) (f : ℤ) → P s.lifecycle
    → (room_to_miss s.lifecycle ≡ true → P (missed_after s.lifecycle f)) → (room_to_match s.lifecycle ≡ true → P (matched_after s.lifecycle f))
    → P (booked_slot s to f).slot.lifecycle
unfolding missed_slot matched_slot
booked_keeps P s None f old missed matched =
    by_room P (room_to_miss s.lifecycle) (room_to_miss s.lifecycle) refl s (missed_after s.lifecycle f) s.partner false old missed
booked_keeps P s (Some to) f old missed matched =
    by_room P (room_to_match s.lifecycle) (room_to_match s.lifecycle) refl s (matched_after s.lifecycle f) (Some to) (switches s.partner to) old matched

pub booked_id : (s : Slot) (to : Option ℤ) (f : ℤ) → id_of (booked_slot s to f).slot ≡ id_of s
booked_id s to f = booked_keeps (λ (t : TrackLifecycle). t.gt_id ≡ id_of s) s to f refl (λ _. miss_id s.lifecycle f) (λ _. match_id s.lifecycle f)

pub booked_sound : (s : Slot) (to : Option ℤ) (f : ℤ) → sound_counts s.lifecycle ≡ true → sound_counts (booked_slot s to f).slot.lifecycle ≡ true
booked_sound s to f e = booked_keeps (λ (t : TrackLifecycle). sound_counts t ≡ true) s to f e (λ _. miss_sound s.lifecycle f e) (λ _. match_sound s.lifecycle f e)

pub booked_fit : (s : Slot) (to : Option ℤ) (f : ℤ) → counts_fit s.lifecycle ≡ true → counts_fit (booked_slot s to f).slot.lifecycle ≡ true
booked_fit s to f e =
    booked_keeps (λ (t : TrackLifecycle). counts_fit t ≡ true) s to f e (λ room. sym (miss_final s.lifecycle f e) ∙ room) (λ room. sym (match_final s.lifecycle f) ∙ room)

pub booked_within : (s : Slot) (to : Option ℤ) (f : ℤ) → Within s.lifecycle → Within (booked_slot s to f).slot.lifecycle
booked_within s to f w = booked_keeps Within s to f w (λ _. miss_within s.lifecycle f w) (λ _. match_within s.lifecycle f w)
