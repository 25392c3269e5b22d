-- A square of side n, at most 64, lies in a run of 64 n floats: row i, column j stands at place 64 i + j. Definitions only.
use Rattle.std.specs.Prelude.{ℕ, ◌+◌, ◌*◌, Bool, cond, List, get_or, set, Float}
use Rattle.std.specs.Float.{nan}
use Rattle.std.specs.Float.Ieee.{lt}
use Rattle.floats.specs.Float.{is_zero}
use Rattle.square.specs.Index.{loop}

-- the places of row i
abbrev pub in_row : ℕ → ℕ → ℕ
in_row i j = i * 64 + j

-- the places of a line, from the first in equal steps: row i from 64 i by 1, column j from j by 64
abbrev pub along : ℕ → ℕ → ℕ → ℕ
along first step t = first + t * step

-- what stands in row i, column j
abbrev pub at : List Float → ℕ → ℕ → Float
at c i j = get_or c (i * 64 + j) nan

-- row i, column j holds a zero
unfoldable pub zero_at : List Float → ℕ → ℕ → Bool
zero_at c i j = is_zero (at c i j)

-- the smaller of the minimum so far and the next entry: a NaN is passed over
unfoldable pub least : Float → Float → Float
least m x = cond (lt x m) x m

-- along the places p 0, .., p (k - 1): place p t gets f t of what it holds
unfoldable pub line : (ℕ → ℕ) → ℕ → (ℕ → Float → Float) → List Float → List Float
unfolding loop
line p k f c = loop k (λ t c. set c (p t) (f t (get_or c (p t) nan))) c

-- over rows 0 to h - 1 and columns 0 to w - 1: place (i, j) gets f i j of what it holds
unfoldable pub over : ℕ → ℕ → (ℕ → ℕ → Float → Float) → List Float → List Float
unfolding loop line
over h w f c = loop h (λ i. line (in_row i) w (f i)) c
