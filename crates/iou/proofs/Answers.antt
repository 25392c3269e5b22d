-- An answer of the right case has document 01's number and value. Assumes nothing.
use mathlib.Core.Bool.{Bool, true, false, cond, ◌||◌}
use mathlib.Core.Path.{◌≡◌, refl, ap, ◌∙◌}
use lib.Ieee.{Float}
use Rattle.floats.specs.Float.{zero64}
use Rattle.boxes.specs.declared.Box.{Box}
use Rattle.std.proofs.Common.{Result, Ok, Err}
use Rattle.refusals.specs.declared.Refusal.{Refusal}
use Rattle.refusals.specs.declared.Refusal.TheVariants.{EmptyBox}
use Rattle.iou.specs.Boxes.{bad_box, distance_of, iou_distance_of, number_of, value_of, distance_no, distance_in, Answered}

number_by : (bad : Bool) (d : Float) → number_of (cond bad (Err EmptyBox) (Ok d)) ≡ cond bad 4 0
number_by true d = refl
number_by false d = refl

value_by : (bad : Bool) (d : Float) → value_of (cond bad (Err EmptyBox) (Ok d)) ≡ cond bad zero64 d
value_by true d = refl
value_by false d = refl

pub answered : {a b : Box} {r : Result Float Refusal} → r ≡ iou_distance_of a b → Answered a b r
unfolding iou_distance_of distance_no distance_in
answered {a} {b} e = record {
  case = e;
  number = ap number_of e ∙ number_by (bad_box a || bad_box b) (distance_of a b);
  value = ap value_of e ∙ value_by (bad_box a || bad_box b) (distance_of a b);
}
