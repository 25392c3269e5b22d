-- What the text of a float looks like. Assumes nothing.
use Rattle.std.specs.Prelude.{◌≡◌, true, cond, List, [], ◌∷◌, ◌++◌, ℕ, ◌+◌, ◌-◌, ◌/◌, ◌%◌, ◌≤◌, ◌<◌, eqb, length, take, drop, get_or}
unfoldable pub use Rattle.digits.specs.Digits.{all_digits}

-- digits, a point and six digits; a zero stands in front only where it stands alone
pub record Numeral (text : List ℕ) : Type 0 where
  pub whole : List ℕ
  pub six : List ℕ
  pub reads : text ≡ whole ++ (46 ∷ six)
  pub some : 1 ≤ length whole
  pub most : length whole ≤ 309
  pub places : length six ≡ 6
  pub whole_digits : all_digits whole ≡ true
  pub six_digits : all_digits six ≡ true
  pub lead : 1 < length whole → get_or whole 0 0 ≡ 48 → ⊥

-- the fields of a bit pattern: a minus or nothing, the exponent, and the name where that is all ones
unfoldable pub sign_of : ℕ → List ℕ
sign_of bits = cond (eqb (bits / 0x8000_0000_0000_0000) 0) [] (45 ∷ [])

abbrev pub exponent_of : ℕ → ℕ
exponent_of bits = bits / 0x10_0000_0000_0000 % 2048

unfoldable pub name_of : ℕ → List ℕ
name_of bits = cond (eqb (bits % 0x10_0000_0000_0000) 0) (105 ∷ 110 ∷ 102 ∷ []) (110 ∷ 97 ∷ 110 ∷ [])

pub record Signed (sign text : List ℕ) : Type 0 where
  pub rest : List ℕ
  pub reads : text ≡ sign ++ rest
  pub numeral : Numeral rest

-- the text of a bit pattern: a name, or a numeral, behind the sign
pub record Written (bits : ℕ) (text : List ℕ) : Type 0 where
  pub named : exponent_of bits ≡ 2047 → text ≡ sign_of bits ++ name_of bits
  pub numbered : (exponent_of bits ≡ 2047 → ⊥) → Signed (sign_of bits) text

-- a part was laid at a place, and r is the place after it; what lies before stays
pub record Laid (at : ℕ) (part before after : List ℕ) (r : ℕ) : Type 0 where
  pub ends : r ≡ at + length part
  pub kept : length after ≡ length before
  pub text : take r after ≡ take at before ++ part

-- digits from a place on, with the point before the last six
abbrev pub shown_of : List ℕ → ℕ → List ℕ
shown_of digits first = take (309 - first) (drop first digits) ++ (46 ∷ take 6 (drop 309 digits))

-- some numeral was laid there
pub record Numbered (at : ℕ) (before after : List ℕ) (r : ℕ) : Type 0 where
  pub part : List ℕ
  pub laid : Laid at part before after r
  pub numeral : Numeral part

-- the text of a bit pattern was written, in memory that keeps its length
pub record WrittenAt (bits : ℕ) (before after : List ℕ) (r : ℕ) : Type 0 where
  pub small : r ≤ 317
  pub kept : length after ≡ length before
  pub written : Written bits (take r after)
