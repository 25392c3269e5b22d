-- `sound_of` is true exactly where none of document 01's three faults is there. Assumes nothing.
use mathlib.Core.Path.{◌≡◌, refl, sym, ap, ◌∙◌}
use mathlib.Core.Bool.{true, ◌&&◌}
use mathlib.Core.List.{List, [], ◌∷◌}
use Prim.Native.Nat.{ℕ, zero, suc, ◌<◌, ◌≤◌}
use native.Mathlib.Nat.{not-suc-le-zero, le_of_suc-le-suc}
use native.Mathlib.Omega.{arith}
use borrow.Author.Tests.{leb-true, le-leb}
use lib.Dec.{leb}
use lib.IntN.{pos}
use lib.Signed.{non_neg}
use lib.ListN.{length, take, get_or, get_or-map}
use lib.Seq.{get_or-take, length-take-le}
use Rattle.counts.proofs.Tests.{both, all_three}
use Rattle.lifecycle.specs.declared.TrackLifecycle.{TrackLifecycle}
use Rattle.lifecycle.specs.Lifecycle.{sound_counts}
use Rattle.slots.specs.declared.Slot.{Slot}
use Rattle.ids.specs.Ids.{distinct_of}
use Rattle.slots.specs.Slots.{no_slot, id_of, ids_of, counts_sound, sound_of}
use Rattle.slots.specs.Sound.{NotNegative, Sound}
use Rattle.ids.proofs.NoneTwice.{distinct_reads, distinct_is}
use Rattle.slots.proofs.Tables.{ids_long}

-- ---- no negative count
pub counts_read : (l : List Slot) → counts_sound l ≡ true → (i : ℕ) → i < length l → sound_counts (get_or l i no_slot).lifecycle ≡ true
unfolding counts_sound
counts_read [] e i h = absurd (not-suc-le-zero h)
counts_read (s ∷ ss) e zero h = (both (sound_counts s.lifecycle) (counts_sound ss) e).0
counts_read (s ∷ ss) e (suc i) h = counts_read ss (both (sound_counts s.lifecycle) (counts_sound ss) e).1 i (le_of_suc-le-suc h)

pub counts_are : (l : List Slot) → ((i : ℕ) → i < length l → sound_counts (get_or l i no_slot).lifecycle ≡ true) → counts_sound l ≡ true
unfolding counts_sound
counts_are [] f = refl
counts_are (s ∷ ss) f = rw (f 0 (omega arith)) (counts_are ss (λ (i : ℕ) (h : i < length ss). f (suc i) (omega arith)))

pub not_negative_reads : (t : TrackLifecycle) → sound_counts t ≡ true → NotNegative t
unfolding sound_counts
not_negative_reads t e =
    let h = all_three (non_neg t.tracked_frames) (non_neg t.detected_frames) (non_neg t.fragmentations) e in
    record { tracked = h.0; detected = h.1; fragmented = h.2 }

pub not_negative_is : (t : TrackLifecycle) → NotNegative t → sound_counts t ≡ true
unfolding sound_counts
not_negative_is t n = rw (n.tracked, n.detected, n.fragmented)

-- ---- the used places of a table that is 256 long
module _ (slots : List Slot) (used : ℕ) (k : used ≤ length slots) where
  pub id_at : (i : ℕ) → i < used → get_or (ids_of slots used) i (pos 0) ≡ id_of (get_or slots i no_slot)
  id_at i h = get_or-map id_of (take used slots) i no_slot ∙ ap id_of (get_or-take used slots i no_slot h)

  long : length (take used slots) ≡ used
  long = length-take-le used slots k

  once_reads : distinct_of (ids_of slots used) ≡ true → (i j : ℕ) → i < j → j < used → id_of (get_or slots i no_slot) ≡ id_of (get_or slots j no_slot) → ⊥
  once_reads e i j p q s =
      let n = ids_long slots used k in
      distinct_reads (ids_of slots used) e i j p (omega arith) (id_at i (omega arith) ∙ (s ∙ sym (id_at j q)))

  once_is : ((i j : ℕ) → i < j → j < used → id_of (get_or slots i no_slot) ≡ id_of (get_or slots j no_slot) → ⊥) → distinct_of (ids_of slots used) ≡ true
  once_is f =
      let n = ids_long slots used k in
      distinct_is (ids_of slots used) (λ (i j : ℕ) (p : i < j) (q : j < length (ids_of slots used)) s.
      f i j p (omega arith) (sym (id_at i (omega arith)) ∙ (s ∙ id_at j (omega arith))))

  used_reads : counts_sound (take used slots) ≡ true → (i : ℕ) → i < used → NotNegative (get_or slots i no_slot).lifecycle
  used_reads e i h =
      let n = long in
      not_negative_reads _ (ap (λ (s : Slot). sound_counts s.lifecycle) (sym (get_or-take used slots i no_slot h)) ∙ counts_read (take used slots) e i (omega arith))

  used_are : ((i : ℕ) → i < used → NotNegative (get_or slots i no_slot).lifecycle) → counts_sound (take used slots) ≡ true
  used_are f =
      let n = long in
      counts_are (take used slots) (λ (i : ℕ) (h : i < length (take used slots)).
      ap (λ (s : Slot). sound_counts s.lifecycle) (get_or-take used slots i no_slot (omega arith)) ∙ not_negative_is _ (f i (omega arith)))

-- THE PLAIN READING OF REFUSAL 1
pub sound_reads : (slots : List Slot) (used : ℕ) → length slots ≡ 256 → sound_of slots used ≡ true → Sound slots used
unfolding sound_of
sound_reads slots used n e =
    let a = both (leb used 256) (counts_sound (take used slots) && distinct_of (ids_of slots used)) e in
    let b = both (counts_sound (take used slots)) (distinct_of (ids_of slots used)) a.1 in
    let h = leb-true used 256 a.0 in
    record { within = h; once = once_reads slots used (omega arith) b.1; counts = used_reads slots used (omega arith) b.0 }

pub sound_is : (slots : List Slot) (used : ℕ) → length slots ≡ 256 → Sound slots used → sound_of slots used ≡ true
unfolding sound_of
sound_is slots used n s =
    let h = s.within in
    rw (le-leb used 256 h, used_are slots used (omega arith) s.counts, once_is slots used (omega arith) s.once)
