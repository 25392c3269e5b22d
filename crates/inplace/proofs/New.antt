-- A run of zeros is the table of a new state. Assumes nothing.
use mathlib.Core.Path.{◌≡◌, refl, sym, ap, ◌∙◌}
use mathlib.Core.List.{List}
use Prim.Native.Nat.{ℕ, zero, suc, ◌<◌}
use native.Mathlib.Omega.{arith}
use lib.IntN.{ℤ, pos}
use lib.ListN.{length, get_or, replicate, length-replicate}
use lib.Seq.{ext_get_or}
use Rattle.slots.specs.Slots.{no_slot}
use Rattle.slot_cells.specs.Cells.{slot_of}
use Rattle.columns.specs.Columns.{cells_at, slots_of}
use Rattle.columns.proofs.Laws.{slots_long, slot_at}
use Rattle.rows.specs.Rows.{new_state}
use Rattle.frame.specs.Frame.{state_with, new_totals}
use Rattle.inplace.specs.InPlace.{state_of}

at_replicate : {A : Type 0} (n k : ℕ) (x : A) → get_or (replicate n x) k x ≡ x
at_replicate zero k x = refl
at_replicate (suc n) zero x = refl
at_replicate (suc n) (suc k) x = at_replicate n k x

abbrev zeros : List ℤ
zeros = replicate 2304 (pos 0)

zero_slot : (k : ℕ) → slot_of (cells_at zeros 256 k) ≡ no_slot
unfolding slot_of cells_at
zero_slot k = simp at_replicate

zero_slots : slots_of zeros ≡ replicate 256 no_slot
zero_slots =
    let n = slots_long zeros in
    ext_get_or no_slot (slots_of zeros) (replicate 256 no_slot) (n ∙ sym (length-replicate 256 no_slot))
    (λ (i : ℕ) (h : i < length (slots_of zeros)). slot_at zeros i (omega arith) ∙ (zero_slot i ∙ sym (at_replicate 256 i no_slot)))

pub new_is : state_of (replicate 2304 (pos 0)) new_totals ≡ new_state
new_is = λ i. state_with (zero_slots i) new_totals
