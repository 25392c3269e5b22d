-- Document 01, "Boxes": the two matrices over lent runs of box floats, written over what is lent. Their numbers are those of `matrix_numbers`, passed on.
use Rattle.std.specs.Prelude.{List, [], ◌∷◌, ◌++◌, ◌≡◌, ℕ, zero, suc, ◌/◌, ◌<◌, length, get_or, drop, Float}
use Rattle.std.specs.Float.{nan}
use Rattle.iou.specs.Boxes.{area_of, distance_of, iou_share_of}
use Rattle.boxes.specs.declared.Box.{Box}
pub use Rattle.matrix_numbers.specs.Numbers.{box_at, or_no}
unfoldable pub use Rattle.matrix_numbers.specs.Numbers.{shape_no, any_bad, any_read_bad, room_no, distance_matrix_no, iou_matrix_no}
use Rattle.matrix.specs.declared.Measure.{Measure}
use Rattle.matrix.specs.declared.Measure.TheVariants.{Away, Shared}

-- what stands in row a, column b: of the distance matrix, and of `iou_matrix`
abbrev pub measured_of : Measure → Box → Box → Float
measured_of Away a b = distance_of a b
measured_of Shared a b = iou_share_of a b

-- the first n places are the areas of the first n boxes
abbrev pub AreasOf : List Float → List Float → ℕ → Type 0
AreasOf run areas n = (j : ℕ) → j < n → get_or areas j nan ≡ area_of (box_at run j)

-- the row of box a: its measures to the first n boxes of the run
unfoldable pub row_of : Measure → Box → List Float → ℕ → List Float
row_of m a run zero = []
row_of m a run (suc n) = row_of m a run n ++ (measured_of m a (box_at run n) ∷ [])

-- the first n rows, one after the other
unfoldable pub matrix_of : Measure → List Float → List Float → ℕ → List Float
matrix_of m gt pred zero = []
matrix_of m gt pred (suc n) = matrix_of m gt pred n ++ row_of m (box_at gt n) pred (length pred / 4)

-- ys over the first places of xs; later places stay
abbrev pub overwrite : List Float → List Float → List Float
overwrite ys xs = ys ++ drop (length ys) xs

-- ---- the lent output after the number: written over at 0, as it was at a refusal
unfoldable pub matrix_after : Measure → ℕ → List Float → List Float → List Float → List Float
matrix_after m zero gt pred out = overwrite (matrix_of m gt pred (length gt / 4)) out
matrix_after m (suc number) gt pred out = out
