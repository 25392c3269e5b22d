-- Floats that are whole numbers. `HasValue x s a 1` says that x is finite, has the sign s (true: negative) and is a in size.
use Rattle.std.specs.Prelude.{ℕ, ◌≡◌, Bool, true, false, cond, ℤ, pos, neg_ℤ, nat_abs, Float}
use Rattle.std.specs.Int.Signed.{lt_z}
use Rattle.std.specs.Float.Ieee.Exact.{HasValue}

-- the whole number with this sign and this size
abbrev pub signed : Bool → ℕ → ℤ
signed false a = pos a
signed true a = neg_ℤ (pos a)

-- the larger and the smaller of two whole numbers
abbrev pub max_z : ℤ → ℤ → ℤ
max_z z w = cond (lt_z z w) w z

abbrev pub min_z : ℤ → ℤ → ℤ
min_z z w = cond (lt_z w z) w z

-- x is the whole number z; a zero may have either sign
pub record IsWhole (x : Float) (z : ℤ) : Type 0 where
  pub sign : Bool
  pub value : HasValue x sign (nat_abs z) 1
  pub is : signed sign (nat_abs z) ≡ z
