-- Sizes, signs and overlaps of whole numbers. Assumes nothing.
use mathlib.Core.Path.{◌≡◌, refl, ap, ◌∙◌}
use mathlib.Core.Bool.{Bool, true, false, not, cond, ◌||◌, true≢false}
use Prim.Native.Nat.{ℕ, zero, suc, ◌+◌, ◌-◌, ◌*◌, ◌≤◌}
use native.Mathlib.Omega.{arith}
use lib.Dec.{ltb}
use lib.IntN.{ℤ, pos, negsuc, neg_ℤ, nat_abs, sub_ℕ, ◌+ℤ◌, ◌-ℤ◌, ◌*ℤ◌, +ℤ_invr, zero-*ℤ, *ℤ-zero}
use lib.Signed.{lt_z, le_z}
use borrow.Author.Tests.{lt-ltb, le-ltb, ltb-true, ltb-false, leb-false}
use Rattle.floats.specs.Whole.{min_z, max_z}
use Rattle.floats.proofs.Whole.{difference, le_z-lt_z}
use Rattle.iou.specs.Whole.{overlap_z}

-- ---- sizes
abs_neg : (z : ℤ) → nat_abs (neg_ℤ z) ≡ nat_abs z
abs_neg (pos zero) = refl
abs_neg (pos (suc n)) = refl
abs_neg (negsuc n) = refl

abs_sub_ℕ : (a b : ℕ) → nat_abs (sub_ℕ a b) ≤ a + b
abs_sub_ℕ a b = go (ltb a b) refl
  where
    go : (t : Bool) → ltb a b ≡ t → nat_abs (cond t (negsuc (b - suc a)) (pos (a - b))) ≤ a + b
    go true e = let l = ltb-true a b e in omega arith
    go false e = omega arith

pub abs_add : (z w : ℤ) → nat_abs (z +ℤ w) ≤ nat_abs z + nat_abs w
abs_add (pos a) (pos b) = omega arith
abs_add (pos a) (negsuc b) = abs_sub_ℕ a (suc b)
abs_add (negsuc a) (pos b) = omega (arith, abs_sub_ℕ b (suc a))
abs_add (negsuc a) (negsuc b) = omega arith

pub abs_sub : (z w : ℤ) → nat_abs (z -ℤ w) ≤ nat_abs z + nat_abs w
abs_sub z w = omega (arith, abs_add z (neg_ℤ w), abs_neg w)

pub abs_mul : (z w : ℤ) → nat_abs (z *ℤ w) ≡ nat_abs z * nat_abs w
abs_mul (pos a) (pos b) = refl
abs_mul (pos a) (negsuc b) = abs_neg (pos (a * suc b))
abs_mul (negsuc a) (pos b) = abs_neg (pos (suc a * b))
abs_mul (negsuc a) (negsuc b) = refl

pub abs_max : (n : ℕ) (z w : ℤ) → nat_abs z ≤ n → nat_abs w ≤ n → nat_abs (max_z z w) ≤ n
abs_max n z w h k = go (lt_z z w)
  where
    go : (t : Bool) → nat_abs (cond t w z) ≤ n
    go true = k
    go false = h

pub abs_min : (n : ℕ) (z w : ℤ) → nat_abs z ≤ n → nat_abs w ≤ n → nat_abs (min_z z w) ≤ n
abs_min n z w h k = go (lt_z w z)
  where
    go : (t : Bool) → nat_abs (cond t w z) ≤ n
    go true = k
    go false = h

-- ---- signs of a difference
below_zero : (a b : ℕ) (t : Bool) → ltb a b ≡ t → lt_z (cond t (neg_ℤ (pos (b - a))) (pos (a - b))) (pos 0) ≡ t
below_zero a b true e = let l = ltb-true a b e in rw (let q : b - a ≡ suc (b - suc a) = omega arith in q)
below_zero a b false e = le-ltb (a - b) 0 (omega arith)

pub sub_below : (z w : ℤ) → lt_z (z -ℤ w) (pos 0) ≡ lt_z z w
sub_below (pos a) (pos b) = rw (difference a b) (below_zero a b (ltb a b) refl)
sub_below (pos a) (negsuc b) = le-ltb (a + suc b) 0 (omega arith)
sub_below (negsuc a) (pos zero) = rw (lt-ltb 0 (suc a) (omega arith))
sub_below (negsuc a) (pos (suc b)) = refl
sub_below (negsuc a) (negsuc b) = go (ltb b a) refl
  where
    go : (t : Bool) → ltb b a ≡ t → lt_z (sub_ℕ (suc b) (suc a)) (pos 0) ≡ t
    go true e = let l = ltb-true b a e in rw (lt-ltb (suc b) (suc a) (omega arith))
    go false e = let l = ltb-false b a e in rw (le-ltb (suc b) (suc a) (omega arith)) (le-ltb (suc b - suc a) 0 (omega arith))

-- what is above is so by at least 1
pub gap : (z w : ℤ) → le_z z w ≡ false → (d : ℕ) × (z -ℤ w ≡ pos (suc d))
gap (pos a) (pos b) h =
    let l = leb-false a b h in
    (a - suc b, difference a b ∙ rw (le-ltb a b (omega arith)) (ap pos (omega arith)))
gap (pos a) (negsuc b) h = (a + b, ap pos (omega arith))
gap (negsuc a) (pos b) h = absurd (true≢false h)
gap (negsuc a) (negsuc b) h =
    let l = leb-false b a h in
    (b - suc a, rw (le-ltb (suc b) (suc a) (omega arith)) (ap pos (omega arith)))

pub above : (z w : ℤ) → le_z z w ≡ false → lt_z w z ≡ true
above z w h = flip (lt_z w z) (le_z-lt_z z w ∙ h)
  where
    flip : (t : Bool) → not t ≡ false → t ≡ true
    flip true e = refl
    flip false e = absurd (true≢false e)

not_below : (z w : ℤ) → le_z z w ≡ false → lt_z z w ≡ false
not_below (pos a) (pos b) h = let l = leb-false a b h in le-ltb a b (omega arith)
not_below (pos a) (negsuc b) h = refl
not_below (negsuc a) (pos b) h = absurd (true≢false h)
not_below (negsuc a) (negsuc b) h = let l = leb-false b a h in le-ltb b a (omega arith)

-- ---- overlaps
pub overlap_size : (n : ℕ) (a0 a1 b0 b1 : ℤ) → nat_abs a0 ≤ n → nat_abs a1 ≤ n → nat_abs b0 ≤ n → nat_abs b1 ≤ n → nat_abs (overlap_z a0 a1 b0 b1) ≤ n + n
overlap_size n a0 a1 b0 b1 p q r s =
    let lo : nat_abs (max_z a0 b0) ≤ n = abs_max n a0 b0 p r in
    let hi : nat_abs (min_z a1 b1) ≤ n = abs_min n a1 b1 q s in
    abs_max (n + n) (min_z a1 b1 -ℤ max_z a0 b0) (pos 0) (omega (arith, abs_sub (min_z a1 b1) (max_z a0 b0))) (omega arith)

pub clipped : (z w : ℤ) → max_z (z -ℤ w) (pos 0) ≡ cond (lt_z z w) (pos 0) (z -ℤ w)
clipped z w = rw (sub_below z w)

pub clipped_product : (t u : Bool) (z w : ℤ) → cond t (pos 0) z *ℤ cond u (pos 0) w ≡ cond (t || u) (pos 0) (z *ℤ w)
clipped_product true u z w = zero-*ℤ (cond u (pos 0) w)
clipped_product false true z w = *ℤ-zero z
clipped_product false false z w = refl

-- the one ends where the other begins
pub overlap_after : (a0 a1 b1 : ℤ) → le_z a1 a0 ≡ false → le_z b1 a1 ≡ false → overlap_z a0 a1 a1 b1 ≡ pos 0
overlap_after a0 a1 b1 h k = rw (not_below b1 a1 k, above a1 a0 h, +ℤ_invr a1)

pub overlap_before : (a0 a1 b0 : ℤ) → le_z a1 a0 ≡ false → le_z a0 b0 ≡ false → overlap_z a0 a1 b0 a0 ≡ pos 0
overlap_before a0 a1 b0 h k = rw (above a1 a0 h, not_below a0 b0 k, +ℤ_invr a0)
