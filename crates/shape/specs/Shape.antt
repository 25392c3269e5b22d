-- Document 01, refusals 2 and 3, for a frame of ids and boxes on two sides.
use Rattle.std.specs.Prelude.{not, cond, ◌||◌, ℕ, ◌/◌, ◌%◌, ltb, eqb}
use Rattle.matrix.specs.Matrix.{or_no}

-- 2: more than 64 ids, or whole boxes, on a side
unfoldable pub size_no : ℕ → ℕ → ℕ
size_no ids floats = cond (ltb 64 ids || ltb 64 (floats / 4)) 2 0

-- 3: ids and boxes differ in number, or the run is not a multiple of four long
unfoldable pub fit_no : ℕ → ℕ → ℕ
fit_no ids floats = cond (not (eqb ids (floats / 4)) || not (eqb (floats % 4) 0)) 3 0

-- both sides' 2 before either's 3
unfoldable pub shape_no : ℕ → ℕ → ℕ → ℕ → ℕ
shape_no gt_ids gt pred_ids pred = or_no (size_no gt_ids gt) (or_no (size_no pred_ids pred) (or_no (fit_no gt_ids gt) (fit_no pred_ids pred)))
