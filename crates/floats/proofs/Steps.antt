-- An operation on two floats that are whole numbers is the whole-number operation, rounded once. Assumes nothing.
use mathlib.Core.Path.{◌≡◌, refl, sym, ap, ◌∙◌}
use mathlib.Core.Bool.{Bool, true, false, not, ◌&&◌}
use Prim.Native.Nat.{ℕ, ◌+◌, ◌-◌, ◌*◌, ◌<◌}
use native.Mathlib.Nat.{mul-one, zero-mul, add-mul, mul-sub, mul_comm, mul_assoc, mul-mul-mul_comm, mul-pos, mul-le-mul_right, mul-lt-mul_of_pos_right}
use native.Mathlib.Omega.{arith}
use lib.Dec.{ltb}
use lib.IntN.{ℤ}
use lib.Ieee.{Float, nan, inf, fin, Format, up, down, round, sum, add, sub, mul, neg, lt, below, unlike}
use lib.Ieee.Fits.{down_pos}
use lib.Ieee.Exact.{HasValue}
use lib.Ieee.Scale.{round_same}
use borrow.Author.Tests.{lt-ltb, le-ltb, ltb-true, ltb-false}

-- ---- fractions with one denominator
ltb_scale : (a b d : ℕ) → 0 < d → ltb (a * d) (b * d) ≡ ltb a b
ltb_scale a b d h = go (ltb a b) refl
  where
    go : (t : Bool) → ltb a b ≡ t → ltb (a * d) (b * d) ≡ t
    go true e = lt-ltb _ _ (mul-lt-mul_of_pos_right (ltb-true a b e) h)
    go false e = le-ltb _ _ (mul-le-mul_right d (ltb-false a b e))

sub_scale : (a b d : ℕ) → (a * d - b * d) * 1 ≡ (a - b) * d
sub_scale a b d = mul-one _ ∙ sym (mul_comm (a - b) d ∙ mul-sub d a b ∙ simp mul_comm)

sum_scale : (f : Format) (s : Bool) (a : ℕ) (t : Bool) (b d : ℕ) → 0 < d → sum f s (a * d) t (b * d) d ≡ sum f s a t b 1
unfolding sum
sum_scale f s a t b d h =
    rw (
      ltb_scale a b d h,
      ltb_scale b a d h,
      round_same f s (a * d + b * d) d (a + b) 1 h one (mul-one _ ∙ sym (add-mul a b d)),
      round_same f t (b * d - a * d) d (b - a) 1 h one (sub_scale b a d),
      round_same f (s && ltb b a) (a * d - b * d) d (a - b) 1 h one (sub_scale a b d),
    )
  where
    one : 0 < 1
    one = omega arith

-- ---- what an operation gives
pub part : (m n : ℕ) (e d : ℤ) → m * up e * 1 ≡ n * down e → m * up e * down d ≡ n * (down e * down d)
part m n e d h = ap (λ (z : ℕ). z * down d) (sym (mul-one (m * up e)) ∙ h) ∙ mul_assoc n (down e) (down d)

pub add_whole : (f : Format) (x y : Float) (s : Bool) (a : ℕ) (t : Bool) (b : ℕ) → HasValue x s a 1 → HasValue y t b 1 → add f x y ≡ sum f s a t b 1
unfolding add
add_whole f nan y s a t b p q = absurd p
add_whole f (inf u) y s a t b p q = absurd p
add_whole f (fin u m e) nan s a t b p q = absurd q
add_whole f (fin u m e) (inf v) s a t b p q = absurd q
add_whole f (fin u m e) (fin v n d) s a t b p q =
    rw (p.0, q.0, part m a e d p.1, part n b d e q.1, mul_comm (down d) (down e)) (sum_scale f s a t b (down e * down d) (mul-pos (down_pos e) (down_pos d)))

pub neg_whole : (x : Float) (s : Bool) (a : ℕ) → HasValue x s a 1 → HasValue (neg x) (not s) a 1
unfolding neg
neg_whole nan s a p = absurd p
neg_whole (inf u) s a p = absurd p
neg_whole (fin u m e) s a p = (ap not p.0, p.1)

pub sub_whole : (f : Format) (x y : Float) (s : Bool) (a : ℕ) (t : Bool) (b : ℕ) → HasValue x s a 1 → HasValue y t b 1 → sub f x y ≡ sum f s a (not t) b 1
unfolding sub
sub_whole f x y s a t b p q = add_whole f x (neg y) s a (not t) b p (neg_whole y t b q)

pub mul_whole : (f : Format) (x y : Float) (s : Bool) (a : ℕ) (t : Bool) (b : ℕ) → HasValue x s a 1 → HasValue y t b 1 → mul f x y ≡ round f (unlike s t) (a * b) 1
unfolding mul
mul_whole f nan y s a t b p q = absurd p
mul_whole f (inf u) y s a t b p q = absurd p
mul_whole f (fin u m e) nan s a t b p q = absurd q
mul_whole f (fin u m e) (inf v) s a t b p q = absurd q
mul_whole f (fin u m e) (fin v n d) s a t b p q =
    rw (p.0, q.0)
    (round_same f (unlike s t) (m * up e * (n * up d)) (down e * down d) (a * b) 1 (mul-pos (down_pos e) (down_pos d)) (omega arith)
    (mul-one _ ∙ ap (λ (z : ℕ). z * (n * up d)) (sym (mul-one _) ∙ p.1) ∙ ap (λ (z : ℕ). a * down e * z) (sym (mul-one _) ∙ q.1) ∙ mul-mul-mul_comm a (down e) b (down d)))

pub lt_whole : (x y : Float) (s : Bool) (a : ℕ) (t : Bool) (b : ℕ) → HasValue x s a 1 → HasValue y t b 1 → lt x y ≡ below s a t b
unfolding lt
lt_whole nan y s a t b p q = absurd p
lt_whole (inf u) y s a t b p q = absurd p
lt_whole (fin u m e) nan s a t b p q = absurd q
lt_whole (fin u m e) (inf v) s a t b p q = absurd q
lt_whole (fin u m e) (fin v n d) s a t b p q =
    rw (p.0, q.0, part m a e d p.1, part n b d e q.1, mul_comm (down d) (down e)) (go s t)
  where
    D : ℕ
    D = down e * down d

    go : (s t : Bool) → below s (a * D) t (b * D) ≡ below s a t b
    go false false = ltb_scale a b D (mul-pos (down_pos e) (down_pos d))
    go false true = refl
    go true false = ap (ltb 0) (sym (add-mul a b D)) ∙ ap (λ (z : ℕ). ltb z ((a + b) * D)) (sym (zero-mul D)) ∙ ltb_scale 0 (a + b) D (mul-pos (down_pos e) (down_pos d))
    go true true = ltb_scale b a D (mul-pos (down_pos e) (down_pos d))
