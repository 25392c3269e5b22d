-- Refusal 1 for a table, read without a computation: what a sound table is.
use Rattle.std.specs.Prelude.{◌≡◌, true, List, ℕ, ◌<◌, ◌≤◌, get_or}
use Rattle.std.specs.Int.Signed.{non_neg}
use Rattle.lifecycle.specs.declared.TrackLifecycle.{TrackLifecycle}
use Rattle.slots.specs.declared.Slot.{Slot}
use Rattle.slots.specs.Slots.{no_slot, id_of}

-- none of a lifecycle's three counts is negative
pub record NotNegative (t : TrackLifecycle) : Type 0 where
  pub tracked : non_neg t.tracked_frames ≡ true
  pub detected : non_neg t.detected_frames ≡ true
  pub fragmented : non_neg t.fragmentations ≡ true

-- none of document 01's three faults: a used count over its capacity, an id twice in the used places, a negative counter
pub record Sound (slots : List Slot) (used : ℕ) : Type 0 where
  pub within : used ≤ 256
  pub once : (i j : ℕ) → i < j → j < used → id_of (get_or slots i no_slot) ≡ id_of (get_or slots j no_slot) → ⊥
  pub counts : (i : ℕ) → i < used → NotNegative (get_or slots i no_slot).lifecycle
