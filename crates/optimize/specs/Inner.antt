-- What the inner functions say to each other: no part of document 01. Definitions only.
use Rattle.std.specs.Prelude.{ℕ, ◌<◌, ◌≤◌, ◌≡◌, Bool, false, List, length, Float}
use Rattle.square.specs.Index.{count, gather, filled, on}
use Rattle.optimize.specs.declared.Assignment.{Assignment}
use Rattle.optimize.specs.Answer.{keeps, taken, pair_of, no_pair}

-- the pairs of the first k rows, how many, and the marks at their rows and columns
pub record Listed (m : List Float) (w : ℕ) (limit : Float) (rows : List ℕ) (k : ℕ) (pairs : List Assignment) (used : ℕ) (R C : List Bool) : Type 0 where
  pub pairs_are : pairs ≡ filled no_pair (gather k (keeps m w limit rows) (pair_of rows))
  pub used_is : used ≡ count k (keeps m w limit rows)
  pub len_rows : length R ≡ 64
  pub len_cols : length C ≡ 64
  pub row_marks : (i : ℕ) → i < k → on R i ≡ keeps m w limit rows i
  pub row_later : (i : ℕ) → k ≤ i → on R i ≡ false
  pub col_marks : (j : ℕ) → on C j ≡ taken m w limit rows k j
