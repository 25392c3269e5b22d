-- What the functions of steps F and G say to each other: no part of document 01. Definitions only.
use Rattle.std.specs.Prelude.{ℕ, ◌<◌, ◌≤◌, ◌≡◌, Bool, true, false, List, [], ◌∷◌, get_or, Float}
use Rattle.std.specs.Float.{nan}
use Rattle.square.specs.Index.{on}
use Rattle.square.specs.Square.{least, zero_at}

-- columns in a list: below 64, and rising
pub record Columns (columns : List ℕ) (used : ℕ) : Type 0 where
  pub few : used ≤ 64
  pub inside : (t : ℕ) → t < used → get_or columns t 0 < 64
  pub rising : (t t' : ℕ) → t < t' → t' < used → get_or columns t 0 < get_or columns t' 0

-- the listed columns, by their place in the list
abbrev pub Listed : List ℕ → ℕ → ℕ
Listed columns t = get_or columns t 0

-- the smaller of m and a row's entries in the listed columns, NaN passed over
unfoldable pub least_in : List Float → List ℕ → Float → Float
unfolding least
least_in row [] m = m
least_in row (j ∷ js) m = least_in row js (least m (get_or row j nan))

-- F marks rows of R, and all of them that have a zero outside C
pub record Hot (n : ℕ) (R C : List Bool) (c : List Float) (F : List Bool) : Type 0 where
  pub only : (i : ℕ) → i < n → on F i ≡ true → on R i ≡ true
  pub all : (i j : ℕ) → i < n → j < n → on R i ≡ true → on C j ≡ false → zero_at c i j ≡ true → on F i ≡ true
