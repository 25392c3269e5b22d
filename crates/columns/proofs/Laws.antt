-- A table with one slot written. Assumes nothing.
use mathlib.Core.Path.{◌≡◌, refl, sym, ap, ◌∙◌}
use mathlib.Core.Bool.{Bool, true, false}
use mathlib.Core.List.{List}
use Prim.Native.Nat.{ℕ, zero, suc, ◌+◌, ◌*◌, ◌%◌, ◌<◌, ◌≤◌}
use native.Mathlib.Nat.{mod-eq_of_lt}
use native.Mathlib.Omega.{arith}
use borrow.Author.Tests.{eqb-true, eqb-false}
use lib.Dec.{eqb}
use lib.IntN.{ℤ, pos}
use lib.ListN.{length, get_or, set, take, length-set}
use lib.Seq.{ext_get_or, get_or-take, get_or-set_same, get_or-set_other, length-take-le}
use Rattle.slots.specs.declared.Slot.{Slot}
use Rattle.slots.specs.Slots.{no_slot, id_of, ids_of}
use Rattle.slots.proofs.Tables.{ids_long}
use Rattle.slots.proofs.Faults.{id_at}
use Rattle.slot_cells.specs.declared.Cells.{Cells}
use Rattle.slot_cells.specs.Cells.{slot_of, cells_of}
use Rattle.slot_cells.proofs.Back.{slot_back}
use Rattle.columns.specs.Columns.{Within, cells_at, numbers_of, put, slots_from, slots_of}
use Rattle.columns.proofs.Runs.{read_all, Fits, fits_up_to, all_long, all_other, all_same, all_back}

-- ---- nine numbers in a run
abbrev cells_in : List ℤ → Cells
cells_in l =
    record {
      id = get_or l 0 (pos 0);
      first = get_or l 1 (pos 0);
      last = get_or l 2 (pos 0);
      tracked = get_or l 3 (pos 0);
      detected = get_or l 4 (pos 0);
      fragmentations = get_or l 5 (pos 0);
      matched = get_or l 6 (pos 0);
      known = get_or l 7 (pos 0);
      partner = get_or l 8 (pos 0);
    }

at_all : (run : List ℤ) (w k : ℕ) → cells_at run w k ≡ cells_in (read_all run w k 9)
unfolding cells_at
at_all run w k = refl

pub put_long : (run : List ℤ) (w k : ℕ) (v : Cells) → length (put run w k v) ≡ length run
unfolding put
put_long run w k v = all_long (numbers_of v) run w k

module _ (run : List ℤ) (w k : ℕ) (h : Within (length run) w k) where
  nine : Fits (length run) w k 9
  nine = let a = h.inside in let b = h.room in fits_up_to 8 (length run) w k (let g : k + w + w + w + w + w + w + w + w < length run = omega arith in g)

  pub at_same : (v : Cells) → cells_at (put run w k v) w k ≡ v
  unfolding put
  at_same v =
      let a = h.inside in
      at_all (put run w k v) w k ∙ ap cells_in (all_same (numbers_of v) run w k (omega arith) nine)

  pub at_other : (i : ℕ) → i < w → (i ≡ k → ⊥) → (v : Cells) → cells_at (put run w k v) w i ≡ cells_at run w i
  unfolding put
  at_other i l x v =
      at_all (put run w k v) w i
      ∙ (ap cells_in (all_other 9 (numbers_of v) run w k i
      (λ (e : i % w ≡ k % w). x (sym (mod-eq_of_lt l) ∙ (e ∙ mod-eq_of_lt h.inside))))
      ∙ sym (at_all run w i))

-- WHAT STOOD THERE, PUT BACK: the run is what it was, number by number
pub put_back : (run : List ℤ) (w k : ℕ) (v : Cells) → 0 < w → put (put run w k v) w k (cells_at run w k) ≡ run
unfolding put cells_at
put_back run w k v p = all_back (numbers_of v) run w k p

-- ---- the table
from_long : (n : ℕ) (run : List ℤ) (i : ℕ) → length (slots_from run i n) ≡ n
unfolding slots_from
from_long zero run i = refl
from_long (suc n) run i = ap suc (from_long n run (suc i))

from_at : (n : ℕ) (run : List ℤ) (i k j : ℕ) → k < n → j ≡ i + k → get_or (slots_from run i n) k no_slot ≡ slot_of (cells_at run 256 j)
unfolding slots_from
from_at zero run i k j h e = absurd (omega arith)
from_at (suc n) run i zero j h e = ap (λ (m : ℕ). slot_of (cells_at run 256 m)) (let q : i ≡ j = omega arith in q)
from_at (suc n) run i (suc k) j h e = from_at n run (suc i) k j (omega arith) (omega arith)

pub slots_long : (run : List ℤ) → length (slots_of run) ≡ 256
slots_long run = from_long 256 run 0

pub slot_at : (run : List ℤ) (k : ℕ) → k < 256 → get_or (slots_of run) k no_slot ≡ slot_of (cells_at run 256 k)
slot_at run k h = from_at 256 run 0 k k h (omega arith)

module _ (run : List ℤ) (l : length run ≡ 2304) where
  pub within : (k : ℕ) → k < 256 → Within (length run) 256 k
  within k h = record { inside = h; few = (let g : 256 ≤ 256 = omega arith in g); room = (let g : 9 * 256 ≤ length run = omega arith in g) }

  -- ONE SLOT WRITTEN is one slot of the table
  module _ (k : ℕ) (x : Slot) (h : k < 256) where
    abbrev after : List ℤ
    after = put run 256 k (cells_of x)

    by_place : (i : ℕ) → i < 256 → (b : Bool) → eqb i k ≡ b → get_or (slots_of after) i no_slot ≡ get_or (set (slots_of run) k x) i no_slot
    by_place i q true e =
        let n = slots_long run in
        let p = eqb-true i k e in
        ap (λ (j : ℕ). get_or (slots_of after) j no_slot) p
        ∙ (slot_at after k h ∙ (ap slot_of (at_same run 256 k (within k h) (cells_of x)) ∙ (slot_back x
        ∙ (sym (get_or-set_same (slots_of run) k x no_slot (omega arith)) ∙ sym (ap (λ (j : ℕ). get_or (set (slots_of run) k x) j no_slot) p)))))
    by_place i q false e =
        let y = eqb-false i k e in
        slot_at after i q
        ∙ (ap slot_of (at_other run 256 k (within k h) i q y (cells_of x))
        ∙ (sym (slot_at run i q) ∙ sym (get_or-set_other (slots_of run) k i x no_slot y)))

    pub put_slot : slots_of after ≡ set (slots_of run) k x
    put_slot =
        let n = slots_long after in
        ext_get_or no_slot (slots_of after) (set (slots_of run) k x) (n ∙ sym (length-set (slots_of run) k x ∙ slots_long run))
        (λ (i : ℕ) (q : i < length (slots_of after)). by_place i (omega arith) (eqb i k) refl)

  -- the first column is that of the ids
  id_there : (i : ℕ) → get_or run i (pos 0) ≡ id_of (slot_of (cells_at run 256 i))
  unfolding slot_of cells_at
  id_there i = refl

  pub ids_there : (used : ℕ) → used ≤ 256 → take used run ≡ ids_of (slots_of run) used
  ids_there used u =
      let n = slots_long run in
      let a = length-take-le used run (omega arith) in
      let b = ids_long (slots_of run) used (omega arith) in
      ext_get_or (pos 0) (take used run) (ids_of (slots_of run) used) (a ∙ sym b)
      (λ (i : ℕ) (q : i < length (take used run)).
      (let p : i < used = omega arith in
      get_or-take used run i (pos 0) p ∙ (id_there i ∙ (ap id_of (sym (slot_at run i (omega arith))) ∙ sym (id_at (slots_of run) used (omega arith) i p)))))
