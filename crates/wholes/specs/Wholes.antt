-- Whole numbers with a sign, of 32 bits. Assumes nothing.
use Rattle.std.specs.Prelude.{cond, List, ℕ, zero, suc, ltb, leb, eqb, ℤ, pos, negsuc, get_or, drop, Option, Some, None}
use Rattle.numerals.specs.Numbers.{decimal_of}

-- n below zero
unfoldable pub below_zero : ℕ → ℤ
below_zero zero = pos zero
below_zero (suc n) = negsuc n

unfoldable pub plain_of : Option ℕ → Option ℤ
plain_of (Some n) = cond (ltb n 2147483648) (Some (pos n)) None
plain_of None = None

unfoldable pub negated_of : Option ℕ → Option ℤ
negated_of (Some n) = cond (leb n 2147483648) (Some (below_zero n)) None
negated_of None = None

-- 45 is the minus
unfoldable pub whole_of : List ℕ → Option ℤ
whole_of word = cond (eqb (get_or word 0 0) 45) (negated_of (decimal_of (drop 1 word))) (plain_of (decimal_of word))
