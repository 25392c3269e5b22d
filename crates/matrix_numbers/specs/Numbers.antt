-- Document 01, "Boxes": the boxes of lent runs of floats, and the two matrices' numbers from "Numbers given back".
use Rattle.std.specs.Prelude.{Bool, false, cond, not, ◌||◌, ◌&&◌, List, ℕ, zero, suc, ◌+◌, ◌*◌, ◌/◌, ◌%◌, ltb, eqb, length, get_or, Float}
use Rattle.std.specs.Float.{nan}
use Rattle.iou.specs.Boxes.{bad_box}
use Rattle.boxes.specs.declared.Box.{Box}

-- box i of a run of floats, four to a box
abbrev pub box_at : List Float → ℕ → Box
box_at run i =
    record {
      x_min = get_or run (4 * i) nan;
      y_min = get_or run (4 * i + 1) nan;
      x_max = get_or run (4 * i + 2) nan;
      y_max = get_or run (4 * i + 3) nan;
    }

-- the first of two numbers that is not 0
abbrev pub or_no : ℕ → ℕ → ℕ
or_no zero b = b
or_no (suc a) b = suc a

-- 2: more than 64 boxes on one side, whole fours counted; 3: a run that is not a multiple of four long
unfoldable pub shape_no : ℕ → ℕ → ℕ
shape_no gt pred =
    cond (ltb 64 (gt / 4) || ltb 64 (pred / 4)) 2
    (cond (not (eqb (gt % 4) 0) || not (eqb (pred % 4) 0)) 3
    0)

-- whether one of the first n boxes is refused
unfoldable pub any_bad : List Float → ℕ → Bool
any_bad run zero = false
any_bad run (suc n) = any_bad run n || bad_box (box_at run n)

-- 4 is for a box that is read, and none is read where a side is empty
unfoldable pub any_read_bad : List Float → List Float → Bool
any_read_bad gt pred =
    not (eqb (length gt / 4) 0) && (not (eqb (length pred / 4) 0) && (any_bad gt (length gt / 4) || any_bad pred (length pred / 4)))

-- 6: the lent output is shorter than what would be written
unfoldable pub room_no : ℕ → ℕ → ℕ → ℕ
room_no rows cols places = cond (ltb places (rows * cols)) 6 0

unfoldable pub distance_matrix_no : List Float → List Float → ℕ → ℕ
distance_matrix_no gt pred places = or_no (shape_no (length gt) (length pred)) (cond (any_read_bad gt pred) 4 (room_no (length gt / 4) (length pred / 4) places))

-- `iou_matrix` refuses no box
unfoldable pub iou_matrix_no : List Float → List Float → ℕ → ℕ
iou_matrix_no gt pred places = or_no (shape_no (length gt) (length pred)) (room_no (length gt / 4) (length pred / 4) places)
