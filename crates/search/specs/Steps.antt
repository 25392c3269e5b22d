-- Steps D, F and G of the search; step E is crate paths'. The encoding adds: sets of rows and columns are lists of 64 marks, and what specs/State there
-- says of squares and tables. Definitions only.
use Rattle.std.specs.Prelude.{ℕ, ◌<◌, ◌≡◌, Bool, true, false, List, ◌⊎◌, length, get_or, Float}
use Rattle.square.specs.Index.{on}
use Rattle.square.specs.Square.{zero_at}
use Rattle.paths.specs.State.{State, state, paired}
use Rattle.paths.specs.Path.{NoPath}
unfoldable pub use Rattle.corrections.specs.Correction.{least_step, least_row, least_rows, useful_of, shifted_of}
pub use Rattle.corrections.specs.Correction.{least_over, correction, shift_of}

-- ---- D: "All n rows paired"
abbrev pub Full : ℕ → State → Type 0
Full n s = (i : ℕ) → i < n → paired n s.rows i ≡ true

-- ---- F: "R and C are the rows and columns reached from all free rows"
-- the rows P and the columns Q are closed: a zero leads from a row of P to a column of Q, and a pair from a column of Q to its partner row
pub record Closed (c : List Float) (n : ℕ) (cols : List ℕ) (P Q : ℕ → Bool) : Type 0 where
  pub row : (i j : ℕ) → i < n → j < n → P i ≡ true → zero_at c i j ≡ true → Q j ≡ true
  pub col : (j : ℕ) → j < n → Q j ≡ true → get_or cols j 0 < n → P (get_or cols j 0) ≡ true

abbrev pub Within : (R C : List Bool) (P Q : ℕ → Bool) → Type 0
Within R C P Q = ((i : ℕ) → on R i ≡ true → P i ≡ true) × ((j : ℕ) → on C j ≡ true → Q j ≡ true)

-- what is reached: the least closed sets that hold the free rows
pub record Reached (n : ℕ) (s : State) (R C : List Bool) : Type 0 where
  pub len_row : length R ≡ 64
  pub len_col : length C ≡ 64
  pub start : (i : ℕ) → i < n → paired n s.rows i ≡ false → on R i ≡ true
  pub closed : Closed s.square n s.cols (on R) (on C)
  pub within : (P Q : ℕ → Bool) → Closed s.square n s.cols P Q → ((i : ℕ) → i < n → paired n s.rows i ≡ false → P i ≡ true) → Within R C P Q

-- step F is come to: a row is free, no free row has a path, and R and C are reached
pub record Blocked (n : ℕ) (s : State) (R C : List Bool) : Type 0 where
  pub row : ℕ
  pub row_in : row < n
  pub row_free : paired n s.rows row ≡ false
  pub no_path : NoPath n s
  pub reached : Reached n s R C

-- "m is the minimum over R and columns outside C" is `least_over`, "If m isn't finite or m <= 0.0, stop" `useful_of`
pub record Stuck (n : ℕ) (s : State) : Type 0 where
  pub R : List Bool
  pub C : List Bool
  pub blocked : Blocked n s R C
  pub no_use : useful_of (least_over s.square n R C) ≡ false

-- where the search stops: at D, or at F
abbrev pub Stop : ℕ → State → Type 0
Stop n s = Full n s ⊎ Stuck n s

-- ---- G: "subtract m on R outside C; add m outside R on C" is `shift_of`
-- ONE COST CORRECTION
pub record Corr (n : ℕ) (s u : State) : Type 0 where
  pub R : List Bool
  pub C : List Bool
  pub blocked : Blocked n s R C
  pub of_use : useful_of (least_over s.square n R C) ≡ true
  pub result : u ≡ state (shift_of n R C (least_over s.square n R C) s.square) s.rows s.cols
