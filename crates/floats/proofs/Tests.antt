-- What a NaN is known by, and that the library's test for a finite float is document 01's. Assumes nothing.
use mathlib.Core.Path.{◌≡◌, refl, sym}
use mathlib.Core.Bool.{Bool, true, false, true≢false}
use Prim.Native.Nat.{ℕ}
use lib.Dec.{T, eqb, eqb_refl}
use lib.Ieee.{Float, nan, inf, fin, is_nan}
use Rattle.std.specs.Float.{float_is_finite}
use Rattle.floats.specs.Float.{is_finite}

pub is_true : (b : Bool) → T b → b ≡ true
is_true true t = refl
is_true false t = absurd t

pub eqb_self : (n : ℕ) → eqb n n ≡ true
eqb_self n = is_true (eqb n n) (eqb_refl n)

pub is_nan_lem : (x : Float) → is_nan x ≡ true → x ≡ nan
unfolding is_nan
is_nan_lem nan h = refl
is_nan_lem (inf s) h = absurd (true≢false (sym h))
is_nan_lem (fin s m e) h = absurd (true≢false (sym h))

-- the library's test and document 01's are one
pub finite_same : (x : Float) → float_is_finite x ≡ is_finite x
unfolding float_is_finite is_finite
finite_same nan = refl
finite_same (inf s) = refl
finite_same (fin s m e) = refl
