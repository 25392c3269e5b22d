-- A NaN coordinate makes its box's area a NaN, and that decides both measures, whatever the intersection is. Assumes nothing.
use mathlib.Core.Path.{◌≡◌, refl, ap, ◌∙◌}
use mathlib.Core.Bool.{Bool, true, false, cond, ◌||◌, true≢false}
use lib.Ieee.{Float, nan, inf, fin, Format, binary64, add, sub, mul, div, eq, lt, is_nan}
use Rattle.floats.specs.Float.{min_of, max_of, zero64}
use Rattle.floats.proofs.Tests.{is_nan_lem}
use Rattle.boxes.specs.declared.Box.{Box}
use Rattle.std.proofs.Common.{Ok}
use Rattle.iou.specs.Boxes.{bad_box, any_nan, area_of, rectangle_of, intersection_of, union_of, away_of, distance_of, iou_distance_of, clamped_of, shared_of, quotient_of, iou_share_of}

-- ---- a NaN goes through every step
add-nan : (f : Format) (x : Float) → add f x nan ≡ nan
unfolding add
add-nan f nan = refl
add-nan f (inf s) = refl
add-nan f (fin s m e) = refl

nan-add : (f : Format) (x : Float) → add f nan x ≡ nan
unfolding add
nan-add f x = refl

sub-nan : (f : Format) (x : Float) → sub f x nan ≡ nan
unfolding sub
sub-nan f x = add-nan f x

nan-sub : (f : Format) (x : Float) → sub f nan x ≡ nan
unfolding sub
nan-sub f x = refl

mul-nan : (f : Format) (x : Float) → mul f x nan ≡ nan
unfolding mul
mul-nan f nan = refl
mul-nan f (inf s) = refl
mul-nan f (fin s m e) = refl

nan-mul : (f : Format) (x : Float) → mul f nan x ≡ nan
unfolding mul
nan-mul f x = refl

pub area_nan : (b : Box) → any_nan b ≡ true → area_of b ≡ nan
unfolding area_of any_nan
area_nan b h = go (is_nan b.x_min) refl (is_nan b.x_max) refl (is_nan b.y_min) refl h
  where
    go : (p : Bool) → is_nan b.x_min ≡ p → (q : Bool) → is_nan b.x_max ≡ q → (r : Bool) → is_nan b.y_min ≡ r → (p || (q || (r || is_nan b.y_max))) ≡ true
        → mul binary64 (sub binary64 b.x_max b.x_min) (sub binary64 b.y_max b.y_min) ≡ nan
    go true e q f r g k = rw (is_nan_lem _ e, sub-nan) (nan-mul binary64 _)
    go false e true f r g k = rw (is_nan_lem _ f, nan-sub) (nan-mul binary64 _)
    go false e false f true g k = rw (is_nan_lem _ g, sub-nan binary64 b.y_max) (mul-nan binary64 _)
    go false e false f false g k = rw (is_nan_lem _ k, nan-sub binary64 b.y_min) (mul-nan binary64 _)

union_nan_first : (area2 inter : Float) → union_of nan area2 inter ≡ nan
unfolding union_of
union_nan_first area2 inter = rw (nan-add, nan-sub)

union_nan_second : (area1 inter : Float) → union_of area1 nan inter ≡ nan
unfolding union_of
union_nan_second area1 inter = rw (add-nan, nan-sub)

away_nan : (x : Float) → away_of x nan ≡ nan
unfolding away_of eq div sub
away_nan nan = refl
away_nan (inf s) = refl
away_nan (fin s m e) = refl

quotient_nan : (x : Float) → quotient_of x nan ≡ zero64
unfolding quotient_of lt
quotient_nan x = refl

-- ---- document 01: in boxes not refused, any NaN coordinate gives NaN
or-true : (a b : Bool) → (a || b) ≡ true → a ≡ false → b ≡ true
or-true true b h e = absurd (true≢false e)
or-true false b h e = h

distance_nan : (a b : Box) (t : Bool) → any_nan a ≡ t → (t || any_nan b) ≡ true → distance_of a b ≡ nan
unfolding distance_of
distance_nan a b true e h = rw (area_nan a e, union_nan_first) (away_nan _)
distance_nan a b false e h = rw (area_nan b h, union_nan_second) (away_nan _)

pub nan_distance : (a b : Box) → bad_box a ≡ false → bad_box b ≡ false → (any_nan a || any_nan b) ≡ true → iou_distance_of a b ≡ Ok nan
unfolding iou_distance_of
nan_distance a b p q h = rw (p, q) (ap Ok (distance_nan a b (any_nan a) refl h))

-- ---- one comparison is enough where the first operand is a number
pub upper_is_max : (x y : Float) → is_nan x ≡ false → cond (lt x y) y x ≡ max_of x y
unfolding max_of
upper_is_max x y h = rw h

pub lower_is_min : (x y : Float) → is_nan x ≡ false → cond (lt y x) y x ≡ min_of x y
unfolding min_of
lower_is_min x y h = rw h

record Numbers (b : Box) : Type 0 where
  x0 : is_nan b.x_min ≡ false
  x1 : is_nan b.x_max ≡ false
  y0 : is_nan b.y_min ≡ false
  y1 : is_nan b.y_max ≡ false

or-false : (a b : Bool) → (a || b) ≡ false → (a ≡ false) × (b ≡ false)
or-false true b h = absurd (true≢false h)
or-false false b h = (refl, h)

numbers : (b : Box) → any_nan b ≡ false → Numbers b
unfolding any_nan
numbers b h =
    let p = or-false _ _ h in
    let q = or-false _ _ p.1 in
    let r = or-false _ _ q.1 in
    record { x0 = p.0; x1 = q.0; y0 = r.0; y1 = r.1 }

pub quick_intersection : (a b : Box) (x0 y0 x1 y1 : Float) → any_nan a ≡ false
    → x0 ≡ cond (lt a.x_min b.x_min) b.x_min a.x_min → y0 ≡ cond (lt a.y_min b.y_min) b.y_min a.y_min
    → x1 ≡ cond (lt b.x_max a.x_max) b.x_max a.x_max → y1 ≡ cond (lt b.y_max a.y_max) b.y_max a.y_max
    → rectangle_of x0 y0 x1 y1 ≡ intersection_of a b
unfolding intersection_of
quick_intersection a b x0 y0 x1 y1 h p q r s =
    let n = numbers a h in
    rw (p ∙ upper_is_max _ _ n.x0, q ∙ upper_is_max _ _ n.y0, r ∙ lower_is_min _ _ n.x1, s ∙ lower_is_min _ _ n.y1)

pub quick_shared : (a b : Box) (x0 y0 x1 y1 : Float) → any_nan a ≡ false
    → x0 ≡ cond (lt a.x_min b.x_min) b.x_min a.x_min → y0 ≡ cond (lt a.y_min b.y_min) b.y_min a.y_min
    → x1 ≡ cond (lt b.x_max a.x_max) b.x_max a.x_max → y1 ≡ cond (lt b.y_max a.y_max) b.y_max a.y_max
    → mul binary64 (max_of (sub binary64 x1 x0) zero64) (max_of (sub binary64 y1 y0) zero64) ≡ shared_of a b
unfolding shared_of clamped_of
quick_shared a b x0 y0 x1 y1 h p q r s =
    let n = numbers a h in
    rw (p ∙ upper_is_max _ _ n.x0, q ∙ upper_is_max _ _ n.y0, r ∙ lower_is_min _ _ n.x1, s ∙ lower_is_min _ _ n.y1)

-- ---- an intersection that is right where the first box has no NaN serves
module _ (a b : Box) (inter area1 area2 : Float) (first : area1 ≡ area_of a) (second : area2 ≡ area_of b) where
  pub quick_distance : (any_nan a ≡ false → inter ≡ intersection_of a b) → away_of inter (union_of area1 area2 inter) ≡ distance_of a b
  unfolding distance_of
  quick_distance h = rw (first, second) (go (any_nan a) refl)
    where
      go : (t : Bool) → any_nan a ≡ t → away_of inter (union_of (area_of a) (area_of b) inter) ≡ away_of (intersection_of a b) (union_of (area_of a) (area_of b) (intersection_of a b))
      go true e = simp (area_nan a e, union_nan_first, away_nan)
      go false e = rw (h e)

  pub quick_share : (any_nan a ≡ false → inter ≡ shared_of a b) → quotient_of inter (union_of area1 area2 inter) ≡ iou_share_of a b
  unfolding iou_share_of
  quick_share h = rw (first, second) (go (any_nan a) refl)
    where
      go : (t : Bool) → any_nan a ≡ t → quotient_of inter (union_of (area_of a) (area_of b) inter) ≡ quotient_of (shared_of a b) (union_of (area_of a) (area_of b) (shared_of a b))
      go true e = simp (area_nan a e, union_nan_first, quotient_nan)
      go false e = rw (h e)
