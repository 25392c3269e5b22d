-- With whole-number coordinates from -32,767 to 32,767 no area step rounds. Assumes nothing.
use mathlib.Core.Path.{refl}
use mathlib.Core.Bool.{Bool, true, false, cond, ◌||◌}
use Prim.Native.Nat.{◌≤◌}
use native.Mathlib.Nat.{mul-le-mul}
use native.Mathlib.Omega.{arith}
use lib.IntN.{ℤ, pos, nat_abs, ◌+ℤ◌, ◌-ℤ◌, ◌*ℤ◌}
use lib.Signed.{lt_z}
use lib.Ieee.{Float, binary64, sub, mul}
use Rattle.floats.specs.Float.{zero64}
use Rattle.floats.specs.Whole.{IsWhole, min_z, max_z}
use Rattle.floats.proofs.Whole.{at_value, whole_add, whole_sub, whole_mul, whole_lt, whole_min, whole_max}
use Rattle.boxes.specs.declared.Box.{Box}
use Rattle.iou.specs.Boxes.{area_of, rectangle_of, intersection_of, union_of}
use Rattle.iou.specs.Whole.{Corners, InRange, HasCorners, area_z, overlap_z, intersection_z, union_z}
use Rattle.iou.proofs.Integers.{abs_add, abs_sub, abs_mul, abs_max, abs_min, overlap_size, clipped, clipped_product}

-- one side by the other
sides_small : (z w : ℤ) → nat_abs z ≤ 65534 → nat_abs w ≤ 65534 → nat_abs (z *ℤ w) ≤ 4294705156
sides_small z w h k = rw (abs_mul z w) (mul-le-mul h k)

sides : {X0 Y0 X1 Y1 : Float} {x0 y0 x1 y1 : ℤ} → IsWhole X0 x0 → IsWhole Y0 y0 → IsWhole X1 x1 → IsWhole Y1 y1
    → nat_abs (x1 -ℤ x0) ≤ 65534 → nat_abs (y1 -ℤ y0) ≤ 65534 → IsWhole (mul binary64 (sub binary64 X1 X0) (sub binary64 Y1 Y0)) ((x1 -ℤ x0) *ℤ (y1 -ℤ y0))
sides {x0 = x0} {y0 = y0} {x1 = x1} {y1 = y1} p q r s h k =
    let small = sides_small (x1 -ℤ x0) (y1 -ℤ y0) h k in
    whole_mul (whole_sub r p (omega arith)) (whole_sub s q (omega arith)) (omega arith)

side_small : (z w : ℤ) → nat_abs z ≤ 32767 → nat_abs w ≤ 32767 → nat_abs (z -ℤ w) ≤ 65534
side_small z w h k = omega (arith, abs_sub z w)

-- ---- each area is at most 4,294,705,156, and is the whole-number one
pub area_small : (k : Corners) → InRange k → nat_abs (area_z k) ≤ 4294705156
area_small k h = sides_small (k.x1 -ℤ k.x0) (k.y1 -ℤ k.y0) (side_small k.x1 k.x0 h.x1_in h.x0_in) (side_small k.y1 k.y0 h.y1_in h.y0_in)

pub area_exact : (b : Box) (k : Corners) → InRange k → HasCorners b k → IsWhole (area_of b) (area_z k)
unfolding area_of
area_exact b k h c = sides c.x0_is c.y0_is c.x1_is c.y1_is (side_small k.x1 k.x0 h.x1_in h.x0_in) (side_small k.y1 k.y0 h.y1_in h.y0_in)

-- ---- so is the intersection
rectangle_exact : {X0 Y0 X1 Y1 : Float} {x0 y0 x1 y1 : ℤ} → IsWhole X0 x0 → IsWhole Y0 y0 → IsWhole X1 x1 → IsWhole Y1 y1
    → nat_abs (x1 -ℤ x0) ≤ 65534 → nat_abs (y1 -ℤ y0) ≤ 65534 → IsWhole (rectangle_of X0 Y0 X1 Y1) (max_z (x1 -ℤ x0) (pos 0) *ℤ max_z (y1 -ℤ y0) (pos 0))
unfolding rectangle_of
rectangle_exact {X0} {Y0} {X1} {Y1} {x0} {y0} {x1} {y1} p q r s h k =
    rw (clipped x1 x0, clipped y1 y0, clipped_product (lt_z x1 x0) (lt_z y1 y0) (x1 -ℤ x0) (y1 -ℤ y0), whole_lt r p, whole_lt s q)
    (go (lt_z x1 x0 || lt_z y1 y0))
  where
    nothing : IsWhole zero64 (pos 0)
    nothing = at_value false 0 (refl, refl)

    go : (t : Bool) → IsWhole (cond t zero64 (mul binary64 (sub binary64 X1 X0) (sub binary64 Y1 Y0))) (cond t (pos 0) ((x1 -ℤ x0) *ℤ (y1 -ℤ y0)))
    go true = nothing
    go false = sides p q r s h k

module _ (a b : Box) (j k : Corners) (ja : InRange j) (kb : InRange k) (ca : HasCorners a j) (cb : HasCorners b k) where
  pub intersection_small : nat_abs (intersection_z j k) ≤ 4294705156
  intersection_small =
      sides_small (overlap_z j.x0 j.x1 k.x0 k.x1) (overlap_z j.y0 j.y1 k.y0 k.y1)
      (overlap_size 32767 j.x0 j.x1 k.x0 k.x1 ja.x0_in ja.x1_in kb.x0_in kb.x1_in)
      (overlap_size 32767 j.y0 j.y1 k.y0 k.y1 ja.y0_in ja.y1_in kb.y0_in kb.y1_in)

  pub intersection_exact : IsWhole (intersection_of a b) (intersection_z j k)
  unfolding intersection_of
  intersection_exact =
      rectangle_exact (whole_max ca.x0_is cb.x0_is) (whole_max ca.y0_is cb.y0_is) (whole_min ca.x1_is cb.x1_is) (whole_min ca.y1_is cb.y1_is)
      (side_small (min_z j.x1 k.x1) (max_z j.x0 k.x0) (abs_min 32767 j.x1 k.x1 ja.x1_in kb.x1_in) (abs_max 32767 j.x0 k.x0 ja.x0_in kb.x0_in))
      (side_small (min_z j.y1 k.y1) (max_z j.y0 k.y0) (abs_min 32767 j.y1 k.y1 ja.y1_in kb.y1_in) (abs_max 32767 j.y0 k.y0 ja.y0_in kb.y0_in))

  -- ---- and the union
  pub union_exact : IsWhole (union_of (area_of a) (area_of b) (intersection_of a b)) (union_z j k)
  unfolding union_of
  union_exact =
      let p = area_small j ja in
      let q = area_small k kb in
      let i = intersection_small in
      let both = abs_add (area_z j) (area_z k) in
      whole_sub (whole_add (area_exact a j ja ca) (area_exact b k kb cb) (omega arith)) intersection_exact
      (omega (arith, abs_sub (area_z j +ℤ area_z k) (intersection_z j k)))
