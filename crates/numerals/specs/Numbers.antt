-- What the digits of a word say. Assumes nothing.
use Rattle.std.specs.Prelude.{ℕ, ◌+◌, ◌-◌, ◌*◌, ◌^◌, cond, List, [], ◌∷◌, ltb, eqb, length, Option, Some, None}

-- '0' to '9' are 48 to 57, 'a' to 'f' are 97 to 102; 16 says that the byte is no digit
unfoldable pub digit_of : ℕ → ℕ
digit_of b = cond (ltb b 48) 16 (cond (ltb b 58) (b - 48) (cond (ltb b 97) 16 (cond (ltb b 103) (b - 87) 16)))

unfoldable pub digit_found : ℕ → Option ℕ
digit_found b = cond (ltb (digit_of b) 16) (Some (digit_of b)) None

-- what v and the digits after it say in a base: nothing where a byte is no digit of it, or the value is 2 ^ 64 or more
unfoldable pub value_from : ℕ → ℕ → List ℕ → Option ℕ
value_from base v [] = Some v
value_from base v (b ∷ bs) =
    cond (ltb (digit_of b) base)
    (cond (ltb (v * base + digit_of b) (2 ^ 64)) (value_from base (v * base + digit_of b) bs) None)
    None

unfoldable pub hex_of : List ℕ → Option ℕ
hex_of word = cond (eqb (length word) 16) (value_from 16 0 word) None

-- no digit says nothing
unfoldable pub decimal_of : List ℕ → Option ℕ
decimal_of word = cond (eqb (length word) 0) None (value_from 10 0 word)
