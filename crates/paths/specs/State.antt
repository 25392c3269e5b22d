-- What the search has in hand between its steps: a square of side n, and each row's and each column's partner or none.
-- The encoding adds: the square lies as crate square's specs/Square says, a table has 64 places, and a partner of n or more is none. Definitions only.
use Rattle.std.specs.Prelude.{ℕ, ◌*◌, ◌<◌, ◌≤◌, ◌≡◌, Bool, List, length, get_or, ltb, Float}
use Rattle.square.specs.Index.{count}

-- the square, each row's column, each column's row
pub record State : Type 0 where
  pub square : List Float
  pub rows : List ℕ
  pub cols : List ℕ

abbrev pub state : List Float → List ℕ → List ℕ → State
state c rows cols = record { square = c; rows = rows; cols = cols }

-- place i of a table has a partner
abbrev pub paired : ℕ → List ℕ → ℕ → Bool
paired n t i = ltb (get_or t i 0) n

-- the two tables are each other's inverse, and pair as many rows as columns
pub record Tables (n : ℕ) (rows cols : List ℕ) : Type 0 where
  pub n64 : n ≤ 64
  pub len_rows : length rows ≡ 64
  pub len_cols : length cols ≡ 64
  pub row_back : (i : ℕ) → i < n → get_or rows i 0 < n → get_or cols (get_or rows i 0) 0 ≡ i
  pub col_back : (j : ℕ) → j < n → get_or cols j 0 < n → get_or rows (get_or cols j 0) 0 ≡ j
  pub same : count n (paired n rows) ≡ count n (paired n cols)

-- what every step keeps
pub record Ok (n : ℕ) (s : State) : Type 0 where
  pub tables : Tables n s.rows s.cols
  pub len : length s.square ≡ n * 64
