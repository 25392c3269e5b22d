-- A refused call leaves the record as it came. Assumes nothing.
use mathlib.Core.Path.{◌≡◌, refl, ap, ◌∙◌}
use mathlib.Core.Bool.{Bool, true, false}
use Prim.Native.Nat.{ℕ}
use lib.IntN.{ℤ}
use Rattle.lifecycle.specs.declared.TrackLifecycle.{TrackLifecycle}
use Rattle.lifecycle.specs.declared.Updated.{Updated}
use Rattle.lifecycle.specs.Lifecycle.{sound_counts, room_to_match, room_to_miss, matched_after, missed_after, updated_at, update_matched_of, update_missed_of}
use Rattle.lifecycle_in_place.specs.InPlace.{answer}

stays : (sound room : Bool) (next t : TrackLifecycle) → ((updated_at sound room next t).number ≡ 0 → ⊥) → (updated_at sound room next t).lifecycle ≡ t
stays true true next t refused = absurd (refused refl)
stays true false next t refused = refl
stays false room next t refused = refl

-- what the promises say, at a number other than 0
module _ (before after : TrackLifecycle) (frame : ℤ) (number : ℕ) (refused : number ≡ 0 → ⊥) where
  pub match_refused : answer number after ≡ update_matched_of before frame → after ≡ before
  unfolding update_matched_of
  match_refused e =
      ap (λ (r : Updated). r.lifecycle) e
      ∙ stays (sound_counts before) (room_to_match before) (matched_after before frame) before (λ z. refused (ap (λ (r : Updated). r.number) e ∙ z))

  pub miss_refused : answer number after ≡ update_missed_of before frame → after ≡ before
  unfolding update_missed_of
  miss_refused e =
      ap (λ (r : Updated). r.lifecycle) e
      ∙ stays (sound_counts before) (room_to_miss before) (missed_after before frame) before (λ z. refused (ap (λ (r : Updated). r.number) e ∙ z))
