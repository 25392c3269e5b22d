-- Boxes with whole-number coordinates that share no area, touching ones among them, are at distance 1. Assumes nothing.
use mathlib.Core.Path.{◌≡◌, refl, sym, ap, ◌∙◌, subst}
use mathlib.Core.Bool.{Bool, true, false, cond, ◌||◌, true≢false}
use mathlib.Core.Logic.{◌⊎◌, inl, inr}
use Prim.Native.Nat.{ℕ, zero, suc, ◌+◌, ◌*◌, ◌<◌}
use native.Mathlib.Nat.{mul-pos, zero-mul, mul-one, suc-mul, add-suc, ne_of_gt}
use native.Mathlib.Omega.{arith}
use lib.IntN.{pos, zero-*ℤ, *ℤ-zero}
use lib.Signed.{le_z}
use lib.Ieee.{Float, nan, inf, fin, binary64, sub, div, eq, round, up, down, unlike}
use lib.Ieee.Exact.{HasValue}
use lib.Ieee.Fits.{up_pos, down_pos}
use lib.Ieee.Scale.{round_same}
use borrow.Author.Tests.{ne_eqb}
use Rattle.floats.specs.Float.{one64, zero64}
use Rattle.floats.specs.Whole.{IsWhole}
use Rattle.floats.proofs.Order.{zero_of}
use Rattle.floats.proofs.Whole.{whole_le}
use Rattle.boxes.specs.declared.Box.{Box}
use Rattle.std.proofs.Common.{Ok}
use Rattle.iou.specs.Boxes.{bad_box, intersection_of, away_of, distance_of, iou_distance_of}
use Rattle.iou.specs.Whole.{Corners, InRange, HasCorners, area_z, overlap_z, intersection_z, union_z}
use Rattle.iou.proofs.Integers.{gap, overlap_after, overlap_before}
use Rattle.iou.proofs.Exact.{intersection_exact, union_exact}

-- ---- 0 over a whole number above 0
sub-zero : (s : Bool) → sub binary64 one64 (round binary64 s 0 1) ≡ one64
unfolding sub round
sub-zero true = refl
sub-zero false = refl

zero_over : (s : Bool) (m : ℕ) (e : _) (t : Bool) (n : ℕ) (d : _) → 0 < n → m ≡ 0 → div binary64 (fin s m e) (fin t n d) ≡ round binary64 (unlike s t) 0 1
unfolding div
zero_over s m e t n d p z =
    rw (ne_eqb n 0 (ne_of_gt p), z)
    (round_same binary64 (unlike s t) (0 * up e * down d) (n * up d * down e) 0 1 (mul-pos (mul-pos p (up_pos d)) (down_pos e)) (omega arith) (simp (zero-mul, mul-one)))

quotient_zero : (x y : Float) (s t : Bool) (n : ℕ) → HasValue x s 0 1 → HasValue y t (suc n) 1 → sub binary64 one64 (div binary64 x y) ≡ one64
quotient_zero nan y s t n p q = absurd p
quotient_zero (inf u) y s t n p q = absurd p
quotient_zero (fin u m e) nan s t n p q = absurd q
quotient_zero (fin u m e) (inf v) s t n p q = absurd q
quotient_zero (fin u m e) (fin v k d) s t n p q =
    rw (zero_over u m e v k d above none) (sub-zero (unlike u v))
  where
    none : m ≡ 0
    none = zero_of m (up e) (up_pos e) (sym (mul-one (m * up e)) ∙ p.1 ∙ zero-mul (down e))

    above : 0 < k
    above = positive k refl
      where
        positive : (k' : ℕ) → k ≡ k' → 0 < k'
        positive (suc k') e = omega arith
        positive zero e = absurd (contradiction (sym q.1 ∙ mul-one (k * up d) ∙ ap (λ (z : ℕ). z * up d) e ∙ zero-mul (up d)) (mul-pos {m = suc n} {n = down d} (omega arith) (down_pos d)))
          where
            contradiction : suc n * down d ≡ 0 → 0 < suc n * down d → ⊥
            contradiction e p = omega arith

away_one : (x y : Float) (n : ℕ) → IsWhole x (pos 0) → IsWhole y (pos (suc n)) → away_of x y ≡ one64
unfolding away_of
away_one x y n p q = go (eq y zero64)
  where
    go : (t : Bool) → cond t one64 (sub binary64 one64 (div binary64 x y)) ≡ one64
    go true = refl
    go false = quotient_zero x y p.sign q.sign n p.value q.value

-- ---- a box that is not refused has sides above 0
or-false : (a b : Bool) → (a || b) ≡ false → (a ≡ false) × (b ≡ false)
or-false true b h = absurd (true≢false h)
or-false false b h = (refl, h)

record Proper (k : Corners) : Type 0 where
  wide : le_z k.x1 k.x0 ≡ false
  high : le_z k.y1 k.y0 ≡ false

proper : (b : Box) (k : Corners) → HasCorners b k → bad_box b ≡ false → Proper k
unfolding bad_box
proper b k c h =
    let p = or-false _ _ h in
    record { wide = sym (whole_le c.x1_is c.x0_is) ∙ p.0; high = sym (whole_le c.y1_is c.y0_is) ∙ p.1 }

area_above : (k : Corners) → Proper k → (n : ℕ) × (area_z k ≡ pos (suc n))
area_above k h =
    let x = gap k.x1 k.x0 h.wide in
    let y = gap k.y1 k.y0 h.high in
    (x.0 * suc y.0 + y.0, rw (x.1, y.1) (ap pos (suc-mul x.0 (suc y.0) ∙ add-suc (x.0 * suc y.0) y.0)))

module _ (a b : Box) (j k : Corners) (ja : InRange j) (kb : InRange k) (ca : HasCorners a j) (cb : HasCorners b k) (pa : bad_box a ≡ false) (pb : bad_box b ≡ false) where
  -- no area in common: 1.0
  pub apart : intersection_z j k ≡ pos 0 → iou_distance_of a b ≡ Ok one64
  unfolding iou_distance_of distance_of
  apart z =
      let p = area_above j (proper a j ca pa) in
      let q = area_above k (proper b k cb pb) in
      let union : union_z j k ≡ pos (suc (p.0 + suc q.0)) = rw (p.1, q.1, z) (ap pos (omega arith)) in
      rw (pa, pb)
      (ap Ok
      (away_one _ _ (p.0 + suc q.0) (subst (IsWhole (intersection_of a b)) z (intersection_exact a b j k ja kb ca cb))
      (subst (IsWhole _) union (union_exact a b j k ja kb ca cb))))

  -- an edge of the one lies on the line of the facing edge of the other
  abbrev Touching : Type 0
  Touching = (j.x1 ≡ k.x0) ⊎ ((j.x0 ≡ k.x1) ⊎ ((j.y1 ≡ k.y0) ⊎ (j.y0 ≡ k.y1)))

  pub touching : Touching → iou_distance_of a b ≡ Ok one64
  touching t = apart (shared t)
    where
      p : Proper j
      p = proper a j ca pa

      q : Proper k
      q = proper b k cb pb

      shared : Touching → intersection_z j k ≡ pos 0
      shared (inl e) = rw (← e, overlap_after j.x0 j.x1 k.x1 p.wide (rw e q.wide)) (zero-*ℤ (overlap_z j.y0 j.y1 k.y0 k.y1))
      shared (inr (inl e)) = rw (← e, overlap_before j.x0 j.x1 k.x0 p.wide (rw e q.wide)) (zero-*ℤ (overlap_z j.y0 j.y1 k.y0 k.y1))
      shared (inr (inr (inl e))) = rw (← e, overlap_after j.y0 j.y1 k.y1 p.high (rw e q.high)) (*ℤ-zero (overlap_z j.x0 j.x1 k.x0 k.x1))
      shared (inr (inr (inr e))) = rw (← e, overlap_before j.y0 j.y1 k.y0 p.high (rw e q.high)) (*ℤ-zero (overlap_z j.x0 j.x1 k.x0 k.x1))
