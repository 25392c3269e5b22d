-- How a table's numbers are read. A box: its id, then x_min, y_min, x_max and y_max in four digits each.
use Rattle.std.specs.Prelude.{cond, ◌≡◌, List, [], ◌∷◌, ◌++◌, ℕ, zero, suc, ◌+◌, ◌*◌, ◌-◌, ◌/◌, ◌%◌, leb, ℤ, pos, Float, take, get_or}
use Rattle.std.specs.Float.{binary64}
use Rattle.std.specs.Float.Ieee.{of_int}

abbrev pub id_of : ℕ → ℕ
id_of digits = digits / 10000000000000000

-- the four digits that stand at a place
abbrev pub part_of : ℕ → ℕ → ℕ
part_of digits place = digits / place % 10000

abbrev pub float64 : ℕ → Float
float64 n = of_int binary64 (pos n)

abbrev pub box_of : ℕ → List Float
box_of digits =
    float64 (part_of digits 1000000000000) ∷ float64 (part_of digits 100000000) ∷ float64 (part_of digits 10000) ∷
    float64 (part_of digits 1) ∷ []

-- the ids and the box floats of n rows from a place on
unfoldable pub ids_of : List ℕ → ℕ → ℕ → List ℤ
ids_of rows first zero = []
ids_of rows first (suc n) = ids_of rows first n ++ (pos (id_of (get_or rows (first + n) 0)) ∷ [])

unfoldable pub boxes_of : List ℕ → ℕ → ℕ → List Float
boxes_of rows first zero = []
boxes_of rows first (suc n) = boxes_of rows first n ++ box_of (get_or rows (first + n) 0)

-- all of n rows from a place on, or none where they are not all there or are too many for a frame
unfoldable pub size_of : ℕ → ℕ → ℕ → ℕ
size_of rows first n = cond (leb n 64) (cond (leb first rows) (cond (leb n (rows - first)) n 0) 0) 0

-- the ids and the box floats of n rows from a place on stand at the start of two runs
pub record Laid (rows : List ℕ) (first n : ℕ) (ids : List ℤ) (boxes : List Float) : Type 0 where
  pub the_ids : take n ids ≡ ids_of rows first n
  pub the_boxes : take (n * 4) boxes ≡ boxes_of rows first n
