-- Refusal 1 for a table of ids, read without a computation: what a sound one is.
use Rattle.std.specs.Prelude.{◌≡◌, List, ℕ, ◌<◌, ◌≤◌, ℤ, pos, get_or}

-- neither of document 01's faults: a used count over the capacity, an id twice in the used places
pub record SoundIds (capacity : ℕ) (ids : List ℤ) (used : ℕ) : Type 0 where
  pub within : used ≤ capacity
  pub once : (i j : ℕ) → i < j → j < used → get_or ids i (pos 0) ≡ get_or ids j (pos 0) → ⊥
