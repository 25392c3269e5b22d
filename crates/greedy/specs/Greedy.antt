-- Document 01, "Lifecycles and events": "take a pair if both ends are free", in the order in which the pairs come.
-- The pair of row i and column j is the place of their entry in a matrix of w columns, i * w + j.
use Rattle.std.specs.Prelude.{◌≡◌, Bool, true, false, not, ◌&&◌, cond, List, [], ◌∷◌, map, ℕ, ◌+◌, ◌*◌, ◌<◌, ◌≤◌, ◌/◌, ◌%◌, length, get_or, set, replicate}
use Rattle.square.specs.Index.{gather, filled, on}
use Rattle.greedy.specs.declared.Pairing.{Pairing}

-- the row and the column of pair k are not gone
abbrev pub both_free : ℕ → List Bool → List Bool → ℕ → Bool
both_free w rows cols k = not (on rows (k / w)) && not (on cols (k % w))

-- of the pairs l those that are taken, where these rows and columns are gone
unfoldable pub taken : ℕ → List ℕ → List Bool → List Bool → List ℕ
taken w [] rows cols = []
taken w (k ∷ l) rows cols =
    cond (both_free w rows cols k) (k ∷ taken w l (set rows (k / w) true) (set cols (k % w) true)) (taken w l rows cols)

abbrev pub none : List Bool
none = replicate 64 false

abbrev pub taken_of : ℕ → List ℕ → List ℕ
taken_of w l = taken w l none none

-- ---- what is kept of them
abbrev pub rows_of : ℕ → List ℕ → List ℕ
rows_of w t = map (λ k. k / w) t

abbrev pub cols_of : ℕ → List ℕ → List ℕ
cols_of w t = map (λ k. k % w) t

-- the marks m, and those of the places l
unfoldable pub marked : List ℕ → List Bool → List Bool
marked [] m = m
marked (i ∷ l) m = marked l (set m i true)

-- the pairs t in 64 places, 0 behind them, and the marks of their ends
abbrev pub pairing_with : ℕ → List ℕ → Pairing
pairing_with w t = record { pairs = filled 0 t; used = length t; rows = marked (rows_of w t) none; cols = marked (cols_of w t) none }

unfoldable pub pairing_of : ℕ → List ℕ → Pairing
pairing_of w l = pairing_with w (taken_of w l)

-- ---- what is left
-- of the places below n those that are not marked, rising
abbrev pub left_of : ℕ → List Bool → List ℕ
left_of n m = gather n (λ i. not (on m i)) (λ i. i)

-- what a pairing of n rows and w columns obeys: its pairs are places of the matrix; with those left they are all rows and all columns
pub record Fitting (n w : ℕ) (p : Pairing) : Type 0 where
  pub few : p.used ≤ 64
  pub places : length p.pairs ≡ 64
  pub inside : (i : ℕ) → i < p.used → get_or p.pairs i 0 < n * w
  pub rows : p.used + length (left_of n p.rows) ≡ n
  pub cols : p.used + length (left_of w p.cols) ≡ w
