-- What an update keeps, accepted or refused, and so what any sequence of updates keeps: the table's length, soundness, counts that
-- an i32 holds, and tracked at most detected. Assumes nothing.
use mathlib.Core.Path.{◌≡◌, refl, ◌∙◌}
use mathlib.Core.Bool.{true}
use mathlib.Core.List.{List, [], ◌∷◌}
use Prim.Native.Nat.{ℕ, ◌<◌}
use native.Mathlib.Nat.{not-suc-le-zero}
use lib.IntN.{ℤ}
use lib.ListN.{length, length-replicate}
use lib.Ieee.{Float}
use Rattle.ids.specs.Ids.{distinct_of}
use Rattle.slots.specs.Slots.{no_slot, counts_sound, sound_of}
use Rattle.rows.specs.declared.ExtendedMOTAccumulator.{ExtendedMOTAccumulator}
use Rattle.rows.specs.Rows.{new_state}
use Rattle.frame.specs.declared.Booked.{Booked}
use Rattle.frame.specs.Frame.{totals_sound, sound_state}
use Rattle.frame.specs.Held.{Held}
use Rattle.frame.specs.Tracked.{TrackedWithin}
use Rattle.frame.proofs.Soundness.{frame_sound}
use Rattle.frame.proofs.Kept.{frame_long, frame_held, frame_tracked}
use Rattle.pairing.specs.Pairing.{Pairing}
use Rattle.extended.specs.Update.{rows_in, pairing_in, update_of}
use Rattle.extended.specs.Play.{Frame, update_by, played_of}
use Rattle.extended.proofs.Ways.{sound_used, update_ways}

-- ---- one update
module _ (s : ExtendedMOTAccumulator) (gt_ids : List ℤ) (gt : List Float) (pred_ids : List ℤ) (pred : List Float) (threshold : Float) where
  abbrev p : Pairing
  p = pairing_in s gt_ids gt pred_ids pred threshold

  pub update_long : length (update_of s gt_ids gt pred_ids pred threshold).state.slots ≡ length s.slots
  update_long =
      update_ways s gt_ids gt pred_ids pred threshold (λ (b : Booked). length b.state.slots ≡ length s.slots) (λ e. refl) (λ e x. refl)
      (λ e z. frame_long s (rows_in gt_ids pred_ids p) p.pairs p.lefts p.extra (length gt_ids) p.distance)

  -- A SOUND STATE STAYS SOUND
  pub update_sound : length s.slots ≡ 256 → sound_state s ≡ true → sound_state (update_of s gt_ids gt pred_ids pred threshold).state ≡ true
  update_sound l a =
      update_ways s gt_ids gt pred_ids pred threshold (λ (b : Booked). sound_state b.state ≡ true) (λ e. a) (λ e x. a)
      (λ e z. frame_sound s (rows_in gt_ids pred_ids p) p.pairs p.lefts p.extra (length gt_ids) p.distance l a)

  -- A STATE THAT THE CODE CAN HOLD stays one
  pub update_held : Held s → Held (update_of s gt_ids gt pred_ids pred threshold).state
  update_held h =
      update_ways s gt_ids gt pred_ids pred threshold (λ (b : Booked). Held b.state) (λ e. h) (λ e x. h)
      (λ e z. frame_held s (rows_in gt_ids pred_ids p) p.pairs p.lefts p.extra (length gt_ids) p.distance (sound_used s e) h)

  -- TRACKED STAYS AT MOST DETECTED
  pub update_tracked : length s.slots ≡ 256 → TrackedWithin s → TrackedWithin (update_of s gt_ids gt pred_ids pred threshold).state
  update_tracked l w =
      update_ways s gt_ids gt pred_ids pred threshold (λ (b : Booked). TrackedWithin b.state) (λ e. w) (λ e x. w)
      (λ e z. frame_tracked s (rows_in gt_ids pred_ids p) p.pairs p.lefts p.extra (length gt_ids) p.distance l (sound_used s e) w)

-- ---- any sequence of updates
pub played_keeps : (P : ExtendedMOTAccumulator → Type 0) → ((s : ExtendedMOTAccumulator) (f : Frame) → P s → P (update_by s f).state)
    → (s : ExtendedMOTAccumulator) (fs : List Frame) → P s → P (played_of s fs)
unfolding played_of
played_keeps P keeps s [] a = a
played_keeps P keeps s (f ∷ fs) a = played_keeps P keeps (update_by s f).state fs (keeps s f a)

module _ (s : ExtendedMOTAccumulator) (fs : List Frame) where
  -- with a fact that needs the table's length
  long_keeps : (P : ExtendedMOTAccumulator → Type 0) → ((t : ExtendedMOTAccumulator) (f : Frame) → length t.slots ≡ 256 → P t → P (update_by t f).state)
      → length s.slots ≡ 256 → P s → P (played_of s fs)
  long_keeps P keeps l a =
      (played_keeps (λ (t : ExtendedMOTAccumulator). (length t.slots ≡ 256) × P t)
      (λ t f h. (update_long t f.gt_ids f.gt_boxes f.pred_ids f.pred_boxes f.threshold ∙ h.0, keeps t f h.0 h.1)) s fs (l, a)).1

  pub played_sound : length s.slots ≡ 256 → sound_state s ≡ true → sound_state (played_of s fs) ≡ true
  played_sound =
      long_keeps (λ (t : ExtendedMOTAccumulator). sound_state t ≡ true)
      (λ t f. update_sound t f.gt_ids f.gt_boxes f.pred_ids f.pred_boxes f.threshold)

  pub played_held : Held s → Held (played_of s fs)
  played_held = played_keeps Held (λ t f. update_held t f.gt_ids f.gt_boxes f.pred_ids f.pred_boxes f.threshold) s fs

  pub played_tracked : length s.slots ≡ 256 → TrackedWithin s → TrackedWithin (played_of s fs)
  played_tracked = long_keeps TrackedWithin (λ t f. update_tracked t f.gt_ids f.gt_boxes f.pred_ids f.pred_boxes f.threshold)

-- ---- from a new state, with no hypothesis
new_long : length new_state.slots ≡ 256
new_long = length-replicate 256 no_slot

new_sound : sound_state new_state ≡ true
unfolding sound_state totals_sound sound_of counts_sound distinct_of
new_sound = refl

pub new_held : Held new_state
new_held = record { long = new_long; fit = λ (i : ℕ) (h : i < 0). absurd (not-suc-le-zero h) }

pub new_played_sound : (fs : List Frame) → sound_state (played_of new_state fs) ≡ true
new_played_sound fs = played_sound new_state fs new_long new_sound

pub new_played_held : (fs : List Frame) → Held (played_of new_state fs)
new_played_held fs = played_held new_state fs new_held

pub new_played_tracked : (fs : List Frame) → TrackedWithin (played_of new_state fs)
new_played_tracked fs = played_tracked new_state fs new_long (λ (i : ℕ) (h : i < 0). absurd (not-suc-le-zero h))
