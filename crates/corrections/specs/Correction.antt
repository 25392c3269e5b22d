-- Step F's minimum, and step G of the search: sets of rows and columns are lists of 64 marks. Definitions only.
use Rattle.std.specs.Prelude.{ℕ, Bool, true, false, not, ◌&&◌, cond, List, Float}
use Rattle.std.specs.Float.{inf, binary64}
use Rattle.std.specs.Float.Ieee.{add, sub, le}
use Rattle.floats.specs.Float.{is_finite, zero64}
use Rattle.square.specs.Index.{loop, on}
use Rattle.square.specs.Square.{at, least, over}

-- "m is the minimum over R and columns outside C, NaN passed over": one entry, the first k columns of row i, the first k rows, and all
unfoldable pub least_step : List Float → List Bool → ℕ → ℕ → Float → Float
unfolding least
least_step c C i j m = cond (on C j) m (least m (at c i j))

unfoldable pub least_row : List Float → List Bool → ℕ → ℕ → Float → Float
unfolding loop least_step
least_row c C i k m = loop k (least_step c C i) m

unfoldable pub least_rows : List Float → ℕ → List Bool → List Bool → ℕ → Float
unfolding loop least_row
least_rows c n R C k = loop k (λ i m. cond (on R i) (least_row c C i n m) m) (inf false)

abbrev pub least_over : List Float → ℕ → List Bool → List Bool → Float
least_over c n R C = least_rows c n R C n

-- "If m isn't finite or m <= 0.0, stop"
unfoldable pub useful_of : Float → Bool
useful_of m = is_finite m && not (le m zero64)

-- ---- G: "subtract m on R outside C; add m outside R on C"
-- an entry x, its row in R or not, its column in C or not
unfoldable pub shifted_of : Bool → Bool → Float → Float → Float
shifted_of true true m x = x
shifted_of true false m x = sub binary64 x m
shifted_of false true m x = add binary64 x m
shifted_of false false m x = x

abbrev pub correction : List Bool → List Bool → Float → ℕ → ℕ → Float → Float
correction R C m i j x = shifted_of (on R i) (on C j) m x

abbrev pub shift_of : ℕ → List Bool → List Bool → Float → List Float → List Float
shift_of n R C m c = over n n (correction R C m) c
