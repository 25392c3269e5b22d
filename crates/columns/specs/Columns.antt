-- A table of slots in a run of numbers: column after column, each with as many numbers as the table has places.
use Rattle.std.specs.Prelude.{List, [], ◌∷◌, ℕ, zero, suc, ◌+◌, ◌*◌, ◌<◌, ◌≤◌, ℤ, pos, get_or, set}
use Rattle.slots.specs.declared.Slot.{Slot}
use Rattle.slot_cells.specs.declared.Cells.{Cells}
use Rattle.slot_cells.specs.Cells.{slot_of}

-- ---- nine columns in a run
-- a place of a table that the run has room for
pub record Within (length places k : ℕ) : Type 0 where
  pub inside : k < places
  pub few : places ≤ 256
  pub room : 9 * places ≤ length

-- where place k stands in column c
abbrev pub place_in : ℕ → ℕ → ℕ → ℕ
place_in places k zero = k
place_in places k (suc c) = place_in places (k + places) c

abbrev pub cell : List ℤ → ℕ → ℕ → ℕ → ℤ
cell run places k c = get_or run (place_in places k c) (pos 0)

unfoldable pub cells_at : List ℤ → ℕ → ℕ → Cells
cells_at run places k =
    record {
      id = cell run places k 0;
      first = cell run places k 1;
      last = cell run places k 2;
      tracked = cell run places k 3;
      detected = cell run places k 4;
      fragmentations = cell run places k 5;
      matched = cell run places k 6;
      known = cell run places k 7;
      partner = cell run places k 8;
    }

abbrev pub numbers_of : Cells → List ℤ
numbers_of v =
    v.id ∷ v.first ∷ v.last ∷ v.tracked ∷ v.detected ∷ v.fragmentations ∷ v.matched ∷ v.known ∷ v.partner ∷ []

-- one number after the other, a column further each
abbrev pub put_all : List ℤ → ℕ → ℕ → List ℤ → List ℤ
put_all run places k [] = run
put_all run places k (v ∷ vs) = put_all (set run k v) places (k + places) vs

unfoldable pub put : List ℤ → ℕ → ℕ → Cells → List ℤ
put run places k v = put_all run places k (numbers_of v)

-- ---- THE TABLE of 256 slots
unfoldable pub slots_from : List ℤ → ℕ → ℕ → List Slot
slots_from run i zero = []
slots_from run i (suc n) = slot_of (cells_at run 256 i) ∷ slots_from run (suc i) n

abbrev pub slots_of : List ℤ → List Slot
slots_of run = slots_from run 0 256
