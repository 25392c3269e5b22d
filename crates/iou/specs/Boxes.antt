-- Document 01, "Boxes": a definition for each step of its text, over lib.Ieee's binary64. Those of one box are those of
-- `boxes`, those of a side those of `sides`, passed on.
use Rattle.std.specs.Prelude.{ℕ, Bool, cond, ◌||◌, ◌≡◌, Float, Result, Ok, Err}
use Rattle.std.specs.Float.{binary64}
use Rattle.std.specs.Float.Ieee.{add, sub, mul, div, lt, eq, is_nan}
use Rattle.floats.specs.Float.{min_of, max_of, zero64, one64}
use Rattle.boxes.specs.declared.Box.{Box}
unfoldable pub use Rattle.boxes.specs.Boxes.{bad_box, area_of}
unfoldable pub use Rattle.sides.specs.Sides.{rectangle_of}
use Rattle.refusals.specs.Refusals as refusals
use Rattle.refusals.specs.declared.Refusal.{Refusal}
use Rattle.refusals.specs.declared.Refusal.TheVariants.{EmptyBox}

-- whether a coordinate is a NaN
unfoldable pub any_nan : Box → Bool
any_nan b = is_nan b.x_min || (is_nan b.x_max || (is_nan b.y_min || is_nan b.y_max))

unfoldable pub intersection_of : Box → Box → Float
intersection_of a b =
    rectangle_of (max_of a.x_min b.x_min) (max_of a.y_min b.y_min) (min_of a.x_max b.x_max) (min_of a.y_max b.y_max)

-- (area1 + area2) - intersection
unfoldable pub union_of : Float → Float → Float → Float
union_of area1 area2 inter = sub binary64 (add binary64 area1 area2) inter

-- union equal to 0 gives 1.0; else 1.0 - intersection / union
unfoldable pub away_of : Float → Float → Float
away_of inter union = cond (eq union zero64) one64 (sub binary64 one64 (div binary64 inter union))

-- the distance of two boxes that are not refused
unfoldable pub distance_of : Box → Box → Float
distance_of a b = away_of (intersection_of a b) (union_of (area_of a) (area_of b) (intersection_of a b))

unfoldable pub iou_distance_of : Box → Box → Result Float Refusal
iou_distance_of a b = cond (bad_box a || bad_box b) (Err EmptyBox) (Ok (distance_of a b))

-- ---- `iou_matrix` refuses no box. Sides are clamped by maximum with 0.0
unfoldable pub clamped_of : Float → Float → Float → Float → Float
clamped_of min1 min2 max1 max2 = max_of (sub binary64 (min_of max1 max2) (max_of min1 min2)) zero64

unfoldable pub shared_of : Box → Box → Float
shared_of a b =
    mul binary64 (clamped_of a.x_min b.x_min a.x_max b.x_max) (clamped_of a.y_min b.y_min a.y_max b.y_max)

-- union > 0.0 gives the quotient, anything else (NaN too) gives 0.0
unfoldable pub quotient_of : Float → Float → Float
quotient_of inter union = cond (lt zero64 union) (div binary64 inter union) zero64

unfoldable pub iou_share_of : Box → Box → Float
iou_share_of a b = quotient_of (shared_of a b) (union_of (area_of a) (area_of b) (shared_of a b))

-- ---- what stands for each case of the answer: document 01's number, and the value, 0 beside a refusal
abbrev pub number_of : Result Float Refusal → ℕ
number_of (Err r) = refusals.number_of r
number_of (Ok d) = 0

abbrev pub value_of : Result Float Refusal → Float
value_of (Err r) = zero64
value_of (Ok d) = d

-- what document 01 says of two boxes: the number, and the value
unfoldable pub distance_no : Box → Box → ℕ
distance_no a b = cond (bad_box a || bad_box b) 4 0

unfoldable pub distance_in : Box → Box → Float
distance_in a b = cond (bad_box a || bad_box b) zero64 (distance_of a b)

-- THE ANSWER of `iou_distance`: its case, and the number and the value that stand for it
pub record Answered (a b : Box) (r : Result Float Refusal) : Type 0 where
  pub case : r ≡ iou_distance_of a b
  pub number : number_of r ≡ distance_no a b
  pub value : value_of r ≡ distance_in a b
