-- Negation is exact: it turns the order round and nothing else. Assumes nothing.
use mathlib.Core.Path.{◌≡◌, refl, ap}
use mathlib.Core.Bool.{Bool, true, false, not, ◌&&◌, not-not}
use Prim.Native.Nat.{ℕ}
use native.Mathlib.Nat.{add_comm}
use lib.Dec.{ltb}
use lib.Ieee.{Float, nan, inf, fin, lt, neg, below, is_nan}

pub neg-neg : (x : Float) → neg (neg x) ≡ x
unfolding neg
neg-neg nan = refl
neg-neg (inf s) = ap inf (not-not s)
neg-neg (fin s m e) = ap (λ (t : Bool). fin t m e) (not-not s)

pub neg_number : (x : Float) → is_nan (neg x) ≡ is_nan x
unfolding neg is_nan
neg_number nan = refl
neg_number (inf s) = refl
neg_number (fin s m e) = refl

signs : (s t : Bool) (a b : ℕ) → below (not s) a (not t) b ≡ below t b s a
signs true true a b = refl
signs true false a b = refl
signs false true a b = ap (ltb 0) (add_comm a b)
signs false false a b = refl

infinities : (s t : Bool) → (not s && not (not t)) ≡ (t && not s)
infinities true true = refl
infinities true false = refl
infinities false true = refl
infinities false false = refl

-- what was below is above
pub neg-lt : (x y : Float) → lt (neg x) (neg y) ≡ lt y x
unfolding lt neg
neg-lt nan nan = refl
neg-lt nan (inf t) = refl
neg-lt nan (fin t n d) = refl
neg-lt (inf s) nan = refl
neg-lt (inf s) (inf t) = infinities s t
neg-lt (inf s) (fin t n d) = refl
neg-lt (fin s m e) nan = refl
neg-lt (fin s m e) (inf t) = not-not t
neg-lt (fin s m e) (fin t n d) = signs s t _ _
