-- Whole numbers up to 2 ^ 53 in size add, subtract, multiply and compare as whole numbers. Assumes nothing.
use mathlib.Core.Path.{◌≡◌, refl, sym, ap, ◌∙◌, subst}
use mathlib.Core.Bool.{Bool, true, false, not, cond, ◌&&◌, ◌||◌, beq, false≢true}
use Prim.Native.Nat.{ℕ, zero, suc, ◌+◌, ◌-◌, ◌*◌, ◌^◌, ◌≤◌, ◌<◌}
use native.Mathlib.Nat.{mul-zero, zero-mul, mul-one, mul_comm, mul_assoc, mul-pos, eq_of_mul-eq-mul_right}
use native.Mathlib.Omega.{arith}
use lib.Dec.{ltb, leb, eqb}
use lib.IntN.{ℤ, pos, negsuc, neg_ℤ, nat_abs, ◌+ℤ◌, ◌-ℤ◌, ◌*ℤ◌, neg_ℤ-neg_ℤ, neg_ℤ-+ℤ, +ℤ_comm, pos-ne-negsuc}
use lib.Signed.{lt_z, le_z}
use lib.Ieee.{Float, nan, inf, fin, binary64, round, sum, add, sub, mul, neg, lt, le, eq, below, unlike, is_nan, of_int, up, down}
use lib.Ieee.Fits.{down_pos}
use lib.Ieee.Exact.{HasValue}
use lib.Ieee.Back.{round_whole}
use borrow.Author.Tests.{lt-ltb, le-ltb, ltb-true, ltb-false, le-leb, lt-leb, eqb-true}
use Rattle.floats.specs.Float.{min_of, max_of}
use Rattle.floats.specs.Whole.{signed, max_z, min_z, IsWhole}
use Rattle.floats.proofs.Order.{le_not_lt, zero_of}
use Rattle.floats.proofs.Steps.{part, add_whole, neg_whole, mul_whole, lt_whole}
use Rattle.floats.proofs.Tests.{eqb_self}

-- ---- sign and size
abs_signed : (s : Bool) (a : ℕ) → nat_abs (signed s a) ≡ a
abs_signed false a = refl
abs_signed true zero = refl
abs_signed true (suc a) = refl

pub at_value : {x : Float} (s : Bool) (a : ℕ) → HasValue x s a 1 → IsWhole x (signed s a)
at_value {x} s a h =
    record {
      sign = s;
      value = subst (λ (n : ℕ). HasValue x s n 1) (sym (abs_signed s a)) h;
      is = ap (signed s) (abs_signed s a);
    }

at_round : (s : Bool) (a : ℕ) (z : ℤ) → signed s a ≡ z → nat_abs z ≤ 2 ^ 53 → IsWhole (round binary64 s a 1) z
at_round s a z e h =
    let k : a ≤ 2 ^ 53 = subst (λ (n : ℕ). n ≤ 2 ^ 53) (ap nat_abs (sym e) ∙ abs_signed s a) h in
    subst (IsWhole (round binary64 s a 1)) e (at_value s a (round_whole binary64 s a k))

-- a whole number that is cast to a float
pub of_int_lem : (z : ℤ) → nat_abs z ≤ 2 ^ 53 → IsWhole (of_int binary64 z) z
unfolding of_int
of_int_lem (pos n) h = at_round false n (pos n) refl h
of_int_lem (negsuc n) h = at_round true (suc n) (negsuc n) refl h

-- ---- sums
pub difference : (a b : ℕ) → pos a +ℤ neg_ℤ (pos b) ≡ cond (ltb a b) (neg_ℤ (pos (b - a))) (pos (a - b))
difference a zero = rw (le-ltb a 0 (omega arith)) (ap pos (omega arith))
difference a (suc b) = go (ltb a (suc b)) refl
  where
    go : (t : Bool) → ltb a (suc b) ≡ t → cond t (negsuc (suc b - suc a)) (pos (a - suc b)) ≡ cond t (neg_ℤ (pos (suc b - a))) (pos (a - suc b))
    go true e = let l = ltb-true a (suc b) e in let q : suc b - a ≡ suc (b - a) = omega arith in rw q (ap negsuc (omega arith))
    go false e = refl

sum-signed : (s : Bool) (a : ℕ) (t : Bool) (b : ℕ) → nat_abs (signed s a +ℤ signed t b) ≤ 2 ^ 53 → IsWhole (sum binary64 s a t b 1) (signed s a +ℤ signed t b)
unfolding sum
sum-signed false a false b h = at_round false (a + b) _ refl h
sum-signed true a true b h = at_round true (a + b) _ (neg_ℤ-+ℤ (pos a) (pos b)) h
sum-signed false a true b h = go (ltb a b) refl
  where
    go : (t : Bool) → ltb a b ≡ t → IsWhole (cond t (round binary64 true (b - a) 1) (round binary64 false (a - b) 1)) (pos a +ℤ neg_ℤ (pos b))
    go true e = at_round true (b - a) _ (sym (difference a b ∙ rw e)) h
    go false e = at_round false (a - b) _ (sym (difference a b ∙ rw e)) h
sum-signed true a false b h = go (ltb a b) refl (ltb b a) refl
  where
    turned : neg_ℤ (pos a) +ℤ pos b ≡ cond (ltb b a) (neg_ℤ (pos (a - b))) (pos (b - a))
    turned = +ℤ_comm (neg_ℤ (pos a)) (pos b) ∙ difference b a

    go : (t : Bool) → ltb a b ≡ t → (u : Bool) → ltb b a ≡ u
        → IsWhole (cond t (round binary64 false (b - a) 1) (round binary64 (true && u) (a - b) 1)) (neg_ℤ (pos a) +ℤ pos b)
    go true e true f = absurd (let l = ltb-true a b e in let m = ltb-true b a f in omega arith)
    go true e false f = at_round false (b - a) _ (sym (turned ∙ rw f)) h
    go false e true f = at_round true (a - b) _ (sym (turned ∙ rw f)) h
    go false e false f = at_round false (a - b) _ (sym (turned ∙ (rw f) ∙ ap pos (let l = ltb-false a b e in let m = ltb-false b a f in let q : b - a ≡ a - b = omega arith in q))) h

pub whole_add : {x y : Float} {z w : ℤ} → IsWhole x z → IsWhole y w → nat_abs (z +ℤ w) ≤ 2 ^ 53 → IsWhole (add binary64 x y) (z +ℤ w)
whole_add {x} {y} {z} {w} p q h = go z w p.is q.is h
  where
    go : (z' w' : ℤ) → signed p.sign (nat_abs z) ≡ z' → signed q.sign (nat_abs w) ≡ w' → nat_abs (z' +ℤ w') ≤ 2 ^ 53 → IsWhole (add binary64 x y) (z' +ℤ w')
    go z' w' e f k =
        rw (← e, ← f, add_whole binary64 x y p.sign (nat_abs z) q.sign (nat_abs w) p.value q.value)
        (sum-signed p.sign (nat_abs z) q.sign (nat_abs w) (rw (e, f) k))

-- ---- differences
neg_signed : (s : Bool) (a : ℕ) → signed (not s) a ≡ neg_ℤ (signed s a)
neg_signed false a = refl
neg_signed true a = sym (neg_ℤ-neg_ℤ (pos a))

pub whole_neg : {x : Float} {z : ℤ} → IsWhole x z → IsWhole (neg x) (neg_ℤ z)
whole_neg {x} {z} p =
    subst (IsWhole (neg x)) (neg_signed p.sign (nat_abs z) ∙ ap neg_ℤ p.is)
    (at_value (not p.sign) (nat_abs z) (neg_whole x p.sign (nat_abs z) p.value))

pub whole_sub : {x y : Float} {z w : ℤ} → IsWhole x z → IsWhole y w → nat_abs (z -ℤ w) ≤ 2 ^ 53 → IsWhole (sub binary64 x y) (z -ℤ w)
unfolding sub
whole_sub p q h = whole_add p (whole_neg q) h

-- ---- products
times : (s : Bool) (a : ℕ) (t : Bool) (b : ℕ) → signed (unlike s t) (a * b) ≡ signed s a *ℤ signed t b
times false a false b = refl
times false a true zero = rw (mul-zero a)
times false a true (suc b) = refl
times true zero false b = rw (zero-mul b)
times true (suc a) false b = refl
times true zero true zero = refl
times true zero true (suc b) = rw (zero-mul (suc b))
times true (suc a) true zero = rw (mul-zero (suc a))
times true (suc a) true (suc b) = refl

pub whole_mul : {x y : Float} {z w : ℤ} → IsWhole x z → IsWhole y w → nat_abs (z *ℤ w) ≤ 2 ^ 53 → IsWhole (mul binary64 x y) (z *ℤ w)
whole_mul {x} {y} {z} {w} p q h =
    rw (mul_whole binary64 x y p.sign (nat_abs z) q.sign (nat_abs w) p.value q.value)
    (at_round (unlike p.sign q.sign) (nat_abs z * nat_abs w) (z *ℤ w)
    (times p.sign (nat_abs z) q.sign (nat_abs w) ∙ ap (λ (u : ℤ). u *ℤ signed q.sign (nat_abs w)) p.is ∙ ap (λ (u : ℤ). z *ℤ u) q.is) h)

-- ---- the order
same_test : (a b c d : ℕ) → (a < b → c < d) → (b ≤ a → d ≤ c) → ltb a b ≡ ltb c d
same_test a b c d p q = go (ltb a b) refl
  where
    go : (t : Bool) → ltb a b ≡ t → t ≡ ltb c d
    go true e = sym (lt-ltb c d (p (ltb-true a b e)))
    go false e = sym (le-ltb c d (q (ltb-false a b e)))

below-signed : (s : Bool) (a : ℕ) (t : Bool) (b : ℕ) → below s a t b ≡ lt_z (signed s a) (signed t b)
below-signed false a false b = refl
below-signed false a true zero = sym (le-ltb a 0 (omega arith))
below-signed false a true (suc b) = refl
below-signed true zero false b = ap (ltb 0) (let q : 0 + b ≡ b = omega arith in q)
below-signed true (suc a) false b = lt-ltb 0 (suc a + b) (omega arith)
below-signed true zero true zero = refl
below-signed true zero true (suc b) = le-ltb (suc b) 0 (omega arith)
below-signed true (suc a) true zero = lt-ltb 0 (suc a) (omega arith)
below-signed true (suc a) true (suc b) = same_test (suc b) (suc a) b a (λ (l : suc b < suc a). omega arith) (λ (l : suc a ≤ suc b). omega arith)

pub whole_lt : {x y : Float} {z w : ℤ} → IsWhole x z → IsWhole y w → lt x y ≡ lt_z z w
whole_lt {x} {y} {z} {w} p q =
    lt_whole x y p.sign (nat_abs z) q.sign (nat_abs w) p.value q.value
    ∙ below-signed p.sign (nat_abs z) q.sign (nat_abs w)
    ∙ ap (λ (u : ℤ). lt_z u (signed q.sign (nat_abs w))) p.is
    ∙ ap (lt_z z) q.is

pub whole_number : {x : Float} {z : ℤ} → IsWhole x z → is_nan x ≡ false
unfolding is_nan
whole_number {x} {z} p = go x p.value
  where
    go : (x : Float) → HasValue x p.sign (nat_abs z) 1 → is_nan x ≡ false
    go nan h = absurd h
    go (inf s) h = absurd h
    go (fin s m e) h = refl

le_lt : (a b : ℕ) → not (ltb b a) ≡ leb a b
le_lt a b = go (ltb b a) refl
  where
    go : (t : Bool) → ltb b a ≡ t → not t ≡ leb a b
    go true e = sym (lt-leb a b (ltb-true b a e))
    go false e = sym (le-leb a b (ltb-false b a e))

pub le_z-lt_z : (z w : ℤ) → not (lt_z w z) ≡ le_z z w
le_z-lt_z (pos a) (pos b) = le_lt a b
le_z-lt_z (pos a) (negsuc b) = refl
le_z-lt_z (negsuc a) (pos b) = refl
le_z-lt_z (negsuc a) (negsuc b) = le_lt b a

pub whole_le : {x y : Float} {z w : ℤ} → IsWhole x z → IsWhole y w → le x y ≡ le_z z w
whole_le {x} {y} {z} {w} p q = le_not_lt x y (whole_number p) (whole_number q) ∙ ap not (whole_lt q p) ∙ le_z-lt_z z w

-- ---- the smaller and the larger
pub whole_max : {x y : Float} {z w : ℤ} → IsWhole x z → IsWhole y w → IsWhole (max_of x y) (max_z z w)
unfolding max_of
whole_max {x} {y} {z} {w} p q = rw (whole_lt p q, whole_number p) (go (lt_z z w))
  where
    go : (t : Bool) → IsWhole (cond t y x) (cond t w z)
    go true = q
    go false = p

pub whole_min : {x y : Float} {z w : ℤ} → IsWhole x z → IsWhole y w → IsWhole (min_of x y) (min_z z w)
unfolding min_of
whole_min {x} {y} {z} {w} p q = rw (whole_lt q p, whole_number p) (go (lt_z w z))
  where
    go : (t : Bool) → IsWhole (cond t y x) (cond t w z)
    go true = q
    go false = p

-- ---- a whole number is a float that equals one cast from it
scaled : (s t : Bool) (a D : ℕ) → signed s a ≡ signed t a → (beq s t || eqb (a * D) 0) ≡ true
scaled false false a D h = refl
scaled true true a D h = refl
scaled false true zero D h = rw (zero-mul D)
scaled true false zero D h = rw (zero-mul D)
scaled false true (suc a) D h = absurd (pos-ne-negsuc (suc a) a h)
scaled true false (suc a) D h = absurd (pos-ne-negsuc (suc a) a (sym h))

-- two floats that are the same whole number are equal
pub whole_eq : {x y : Float} {z : ℤ} → IsWhole x z → IsWhole y z → eq x y ≡ true
unfolding eq
whole_eq {x} {y} {z} p q = go x y p.value q.value
  where
    go : (x y : Float) → HasValue x p.sign (nat_abs z) 1 → HasValue y q.sign (nat_abs z) 1 → eq x y ≡ true
    go nan y h k = absurd h
    go (inf s) y h k = absurd h
    go (fin s m e) nan h k = absurd k
    go (fin s m e) (inf t) h k = absurd k
    go (fin s m e) (fin t n d) h k =
        let a = nat_abs z in
        let left : m * up e * down d ≡ a * (down e * down d) = part m a e d h.1 in
        let right : n * up d * down e ≡ a * (down e * down d) = part n a d e k.1 ∙ ap (λ (D : ℕ). a * D) (mul_comm (down d) (down e)) in
        rw (left, right, eqb_self, h.0, k.0) (scaled p.sign q.sign a (down e * down d) (p.is ∙ sym q.is))

and-true : (a b : Bool) → (a && b) ≡ true → (a ≡ true) × (b ≡ true)
and-true true b h = (refl, h)
and-true false b h = absurd (false≢true h)

sign_free : (s t : Bool) (a n D : ℕ) → 0 < D → n ≡ a * D → (beq s t || eqb n 0) ≡ true → signed s a ≡ signed t a
sign_free false false a n D l e h = refl
sign_free true true a n D l e h = refl
sign_free false true a n D l e h = rw (zero_of a D l (sym e ∙ eqb-true n 0 h))
sign_free true false a n D l e h = rw (zero_of a D l (sym e ∙ eqb-true n 0 h))

-- what equals a whole number is that whole number
pub equals_whole : {x y : Float} {z : ℤ} → IsWhole y z → eq x y ≡ true → IsWhole x z
unfolding eq
equals_whole {x} {y} {z} q h = go x y q.value h
  where
    go : (x y : Float) → HasValue y q.sign (nat_abs z) 1 → eq x y ≡ true → IsWhole x z
    go nan y k h = absurd (false≢true h)
    go (inf s) nan k h = absurd (false≢true h)
    go (inf s) (inf t) k h = absurd k
    go (inf s) (fin t n d) k h = absurd (false≢true h)
    go (fin s m e) nan k h = absurd (false≢true h)
    go (fin s m e) (inf t) k h = absurd (false≢true h)
    go (fin s m e) (fin t n d) k h =
        let a = nat_abs z in
        let w = and-true (eqb (m * up e * down d) (n * up d * down e)) (beq s t || eqb (m * up e * down d) 0) h in
        let size : m * up e * down d ≡ a * (down d * down e) = eqb-true (m * up e * down d) (n * up d * down e) w.0 ∙ part n a d e k.1 in
        let own : m * up e ≡ a * down e = eq_of_mul-eq-mul_right (down d) (down_pos d) (m * up e) (a * down e) (size ∙ ap (λ (D : ℕ). a * D) (mul_comm (down d) (down e)) ∙ sym (mul_assoc a (down e) (down d))) in
        subst (IsWhole (fin s m e))
        (sign_free s t a (m * up e * down d) (down d * down e) (mul-pos (down_pos d) (down_pos e)) size w.1 ∙ ap (λ (u : Bool). signed u a) k.0 ∙ q.is)
        (at_value s a (refl, mul-one (m * up e) ∙ own))
