-- Digits, as bytes. Definitions only.
use Rattle.std.specs.Prelude.{Bool, true, false, cond, List, [], ◌∷◌, ℕ, ltb}

abbrev pub is_digit : ℕ → Bool
is_digit b = cond (ltb b 48) false (ltb b 58)

unfoldable pub all_digits : List ℕ → Bool
all_digits [] = true
all_digits (b ∷ bs) = cond (is_digit b) (all_digits bs) false
