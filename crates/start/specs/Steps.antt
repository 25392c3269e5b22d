-- Steps A to C of the search. A matrix of h rows and w columns is a run, row after row; squares and tables lie as crates square and paths say.
-- Definitions only.
use Rattle.std.specs.Prelude.{ℕ, ◌+◌, ◌*◌, max, Bool, true, false, not, ◌&&◌, cond, List, get_or, set, replicate, Float}
use Rattle.std.specs.Float.{nan, inf, binary64}
use Rattle.std.specs.Float.Ieee.{sub}
use Rattle.floats.specs.Float.{is_finite, zero64}
use Rattle.square.specs.Index.{loop}
use Rattle.square.specs.Square.{zero_at, least, along, line, over}
use Rattle.paths.specs.State.{State, paired}

-- ---- A: "n is the larger side; a square is padded with 0.0"
-- row i, column j of the matrix as given
abbrev pub entry : List Float → ℕ → ℕ → ℕ → Float
entry m w i j = get_or m (i * w + j) nan

unfoldable pub padded : List Float → ℕ → ℕ → List Float
padded m h w = over h w (λ i j _. entry m w i j) (replicate (max h w * 64) zero64)

-- ---- B: "For each row, then for each column, the minimum (NaN passed over, start +infinity) is subtracted if finite"
-- the minimum of the first k places of a line
unfoldable pub least_along : (ℕ → ℕ) → ℕ → List Float → Float
unfolding loop least
least_along p k c = loop k (λ t m. least m (get_or c (p t) nan)) (inf false)

-- a line of n places less m
abbrev pub less_by : (ℕ → ℕ) → ℕ → Float → List Float → List Float
less_by p n m c = line p n (λ _ x. sub binary64 x m) c

-- a line less its minimum
unfoldable pub lowered : (ℕ → ℕ) → ℕ → List Float → List Float
unfolding least_along
lowered p n c = cond (is_finite (least_along p n c)) (less_by p n (least_along p n c) c) c

-- the first k rows, and the first k columns
unfoldable pub rows_lowered : ℕ → ℕ → List Float → List Float
unfolding loop lowered
rows_lowered n k c = loop k (λ i. lowered (along (i * 64) 1) n) c

unfoldable pub cols_lowered : ℕ → ℕ → List Float → List Float
unfolding loop lowered
cols_lowered n k c = loop k (λ j. lowered (along j 64) n) c

-- ---- C: "First pass: rows in order, columns in order; an entry with abs < 1e-10 pairs a free row with a free column"
-- each row's column and each column's row
pub record Pairs : Type 0 where
  pub rows : List ℕ
  pub cols : List ℕ

abbrev pub pairs_of : List ℕ → List ℕ → Pairs
pairs_of rows cols = record { rows = rows; cols = cols }

abbrev pub no_pairs : Pairs
no_pairs = pairs_of (replicate 64 64) (replicate 64 64)

unfoldable pub pair_if : Bool → ℕ → ℕ → Pairs → Pairs
pair_if true i j t = pairs_of (set t.rows i j) (set t.cols j i)
pair_if false i j t = t

-- one entry, the first k columns of row i, and the first k rows
unfoldable pub pair_at : List Float → ℕ → ℕ → ℕ → Pairs → Pairs
unfolding pair_if
pair_at c n i j t = pair_if (zero_at c i j && (not (paired n t.rows i) && not (paired n t.cols j))) i j t

unfoldable pub pair_row : List Float → ℕ → ℕ → ℕ → Pairs → Pairs
unfolding loop pair_at
pair_row c n i k t = loop k (pair_at c n i) t

unfoldable pub pair_rows : List Float → ℕ → ℕ → Pairs → Pairs
unfolding loop pair_row
pair_rows c n k t = loop k (λ i. pair_row c n i n) t

-- ---- A to C: where the loop D to G starts
unfoldable pub square_of : List Float → ℕ → ℕ → List Float
unfolding padded rows_lowered cols_lowered
square_of m h w = cols_lowered (max h w) (max h w) (rows_lowered (max h w) (max h w) (padded m h w))

unfoldable pub start_of : List Float → ℕ → ℕ → State
unfolding square_of pair_rows
start_of m h w =
    let t = pair_rows (square_of m h w) (max h w) (max h w) no_pairs in
    record { square = square_of m h w; rows = t.rows; cols = t.cols }
