-- The texts of the NaN and of the infinities. Assumes nothing.
use mathlib.Core.Path.{◌≡◌, refl}
use mathlib.Core.Bool.{true, false}
use mathlib.Core.List.{List, [], ◌∷◌}
use Prim.Native.Nat.{ℕ}
use lib.Ieee.{nan, inf, binary64, to_bits}
use Rattle.decimal_text.specs.Texts.{sign_of, name_of, Written}

pub nan_text : {text : List ℕ} → Written (to_bits binary64 nan) text → text ≡ 110 ∷ 97 ∷ 110 ∷ []
unfolding to_bits sign_of name_of
nan_text w = w.named refl

pub infinity_text : {text : List ℕ} → Written (to_bits binary64 (inf false)) text → text ≡ 105 ∷ 110 ∷ 102 ∷ []
unfolding to_bits sign_of name_of
infinity_text w = w.named refl

pub minus_infinity_text : {text : List ℕ} → Written (to_bits binary64 (inf true)) text → text ≡ 45 ∷ 105 ∷ 110 ∷ 102 ∷ []
unfolding to_bits sign_of name_of
minus_infinity_text w = w.named refl
