-- What is subtracted from itself is +0, and the zero test goes by size alone. Assumes nothing.
use mathlib.Core.Path.{◌≡◌, refl, sym, ◌∙◌}
use mathlib.Core.Bool.{Bool, true, false, not, ◌&&◌, beq, cond, true≢false}
use Prim.Native.Nat.{ℕ, ◌+◌, ◌*◌, ◌<◌}
use native.Mathlib.Nat.{sub_self, mul-pos, zero-mul, le_refl}
use native.Mathlib.Omega.{arith}
use lib.IntN.{ℤ, negsuc}
use lib.Ieee.{Float, nan, inf, fin, binary64, neg, add, sub, sum, round, lt, up, down}
use lib.Ieee.Scale.{round_same}
use lib.Ieee.Fits.{down_pos}
use borrow.Author.Tests.{le-ltb, lt-ltb, ltb-false}
use Rattle.floats.specs.Float.{zero64, is_finite, abs_of, tiny, is_zero}

-- ---- x - x
round-zero : (c : ℕ) → 0 < c → round binary64 false 0 c ≡ zero64
unfolding round
round-zero c h = round_same binary64 false 0 c 0 1 h (le_refl 1) (zero-mul 1 ∙ sym (zero-mul c))

unlike_not : (s : Bool) → beq s (not s) ≡ false
unlike_not true = refl
unlike_not false = refl

and-false : (s : Bool) → (s && false) ≡ false
and-false true = refl
and-false false = refl

sum-zero : (s : Bool) (a c : ℕ) → 0 < c → sum binary64 s a (not s) a c ≡ zero64
unfolding sum
sum-zero s a c h = simp (unlike_not s, le-ltb a a (le_refl a), sub_self a, and-false s) (round-zero c h)

pub sub_self_zero : (x : Float) → is_finite x ≡ true → sub binary64 x x ≡ zero64
unfolding is_finite sub neg add
sub_self_zero nan h = absurd (true≢false (sym h))
sub_self_zero (inf s) h = absurd (true≢false (sym h))
sub_self_zero (fin s m e) h = sum-zero s (m * up e * down e) (down e * down e) (mul-pos (down_pos e) (down_pos e))

-- ---- the zero test
-- the number with its sign cleared
unfoldable pub size_of : Float → Float
size_of nan = nan
size_of (inf s) = inf false
size_of (fin s m e) = fin false m e

not_negative : (m : ℕ) (e : ℤ) → lt (fin false m e) zero64 ≡ false
unfolding lt
not_negative m e = le-ltb (m * up e * 1) (0 * 1 * down e) (omega arith)

-- a zero with its sign kept is as small as one without
by_size : (m : ℕ) (e : ℤ) (b : Bool) → lt (fin true m e) zero64 ≡ b → lt (cond b (fin false m e) (fin true m e)) tiny ≡ lt (fin false m e) tiny
unfolding lt
by_size m e true h = refl
by_size m e false h =
    let pe : 0 < down e = down_pos e in
    let q : 0 < 7737125245533627 * 1 * down e = omega arith in
    let z : m * up e * down (negsuc 85) ≡ 0 = omega (arith, ltb-false 0 (m * up e * 1 + 0 * 1 * down e) h) in
    rw z (lt-ltb 0 (0 + 7737125245533627 * up (negsuc 85) * down e) (omega arith) ∙ sym (lt-ltb 0 (7737125245533627 * up (negsuc 85) * down e) q))

pub zero_by_size : (x : Float) → is_zero x ≡ lt (size_of x) tiny
unfolding is_zero abs_of size_of lt neg
zero_by_size nan = refl
zero_by_size (inf true) = refl
zero_by_size (inf false) = refl
zero_by_size (fin false m e) = rw (not_negative m e)
zero_by_size (fin true m e) = by_size m e (lt (fin true m e) zero64) refl

-- a finite entry less itself is a zero of the search
pub sub_self_is_zero : (x : Float) → is_finite x ≡ true → is_zero (sub binary64 x x) ≡ true
unfolding is_zero abs_of lt
sub_self_is_zero x h = rw (sub_self_zero x h)
