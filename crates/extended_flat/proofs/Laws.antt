-- A state in lent numbers: its lengths, and the slots' counts. Assumes nothing.
use mathlib.Core.Path.{◌≡◌, sym, ap, ◌∙◌}
use mathlib.Core.Bool.{Bool, true, false, ◌&&◌}
use mathlib.Core.List.{List}
use Prim.Native.Nat.{ℕ, ◌+◌, ◌<◌, ◌≤◌}
use native.Mathlib.Omega.{arith}
use borrow.Author.Tests.{eqb-true}
use lib.Dec.{eqb}
use lib.IntN.{ℤ}
use lib.ListN.{take, drop, get_or}
use Rattle.square.proofs.Truth.{and_left, and_right, and_not_right}
use Rattle.lifecycle.specs.Lifecycle.{sound_counts}
use Rattle.slots.specs.declared.Slot.{Slot}
use Rattle.slots.specs.Slots.{no_slot, counts_sound}
use Rattle.slots.proofs.Tables.{count_bad, count_next}
use Rattle.slot_cells.specs.Cells.{slot_of}
use Rattle.columns.specs.Columns.{cells_at, slots_of}
use Rattle.columns.proofs.Laws.{slots_long, slot_at}
use Rattle.extended_flat.specs.Flat.{whole_of}

pub lengths : (run counters distance : ℕ) → whole_of run counters distance ≡ true → (run ≡ 2304) × (counters ≡ 7) × (distance ≡ 1)
unfolding whole_of
lengths run counters distance e =
    let h = and_right (eqb run 2304) _ e in
    (eqb-true run 2304 (and_left (eqb run 2304) _ e), eqb-true counters 7 (and_left (eqb counters 7) _ h), eqb-true distance 1 (and_right (eqb counters 7) _ h))

-- ---- one turn over the used slots: what was met so far and the counts from place i on decide what all of them do
module _ (run : List ℤ) (used i : ℕ) (u : used ≤ 256) (h : i < used) (x : Slot) (is : x ≡ slot_of (cells_at run 256 i)) where
  there : sound_counts x.lifecycle ≡ sound_counts (get_or (slots_of run) i no_slot).lifecycle
  there = ap (λ (s : Slot). sound_counts s.lifecycle) (is ∙ sym (slot_at run i (omega arith)))

  bad : sound_counts x.lifecycle ≡ false → counts_sound (drop i (take used (slots_of run))) ≡ false
  bad e = let n = slots_long run in count_bad (slots_of run) used i h (omega arith) (sym there ∙ e)

  good : sound_counts x.lifecycle ≡ true → counts_sound (drop i (take used (slots_of run))) ≡ counts_sound (drop (i + 1) (take used (slots_of run)))
  good e = let n = slots_long run in count_next (slots_of run) used i h (omega arith) (sym there ∙ e)

  module _ (all : Bool) (so_far : (all && counts_sound (drop i (take used (slots_of run)))) ≡ counts_sound (take used (slots_of run))) where
    pub turn_bad : sound_counts x.lifecycle ≡ false → (false && counts_sound (drop (i + 1) (take used (slots_of run)))) ≡ counts_sound (take used (slots_of run))
    turn_bad e = sym (and_not_right all _ (bad e)) ∙ so_far

    pub turn_good : sound_counts x.lifecycle ≡ true → (all && counts_sound (drop (i + 1) (take used (slots_of run)))) ≡ counts_sound (take used (slots_of run))
    turn_good e = ap (λ (b : Bool). all && b) (sym (good e)) ∙ so_far
