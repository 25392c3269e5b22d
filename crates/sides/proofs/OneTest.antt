-- max(x, 0.0) by one test. Assumes nothing.
use mathlib.Core.Path.{◌≡◌, refl, sym}
use mathlib.Core.Bool.{Bool, true, false, cond, not}
use lib.Ieee.{Float, eq, lt, le, is_nan}
use Rattle.floats.specs.Float.{max_of, zero64}
use Rattle.floats.proofs.Tests.{is_nan_lem}
use Rattle.floats.proofs.Order.{le_not_lt}

nan_le : (x : Float) → is_nan x ≡ true → le zero64 x ≡ false
unfolding le lt eq
nan_le x h = rw (is_nan_lem x h)

either : (t : Bool) → cond t zero64 zero64 ≡ zero64
either true = refl
either false = refl

number_clamp : (x : Float) (t : Bool) → lt x zero64 ≡ t → cond (not t) x zero64 ≡ cond t zero64 x
number_clamp x true e = refl
number_clamp x false e = refl

pub clamp_is_max : (x : Float) → cond (le zero64 x) x zero64 ≡ max_of x zero64
unfolding max_of
clamp_is_max x = go (is_nan x) refl
  where
    go : (t : Bool) → is_nan x ≡ t → cond (le zero64 x) x zero64 ≡ cond (lt x zero64) zero64 (cond t zero64 x)
    go true e = rw (nan_le x e) (sym (either (lt x zero64)))
    go false e = rw (le_not_lt zero64 x (unfold is_nan in refl) e) (number_clamp x (lt x zero64) refl)
