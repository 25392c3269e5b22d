-- What Rust's methods on f64 answer, over lib.Ieee's values, and document 01's zero test.
use Rattle.std.specs.Prelude.{Bool, true, false, cond, pos, negsuc, Float}
use Rattle.std.specs.Float.{nan, inf, fin}
use Rattle.std.specs.Float.Ieee.{lt, neg, is_nan}

-- the literals 0.0 and 1.0
abbrev pub zero64 : Float
zero64 = fin false 0 (pos 0)

abbrev pub one64 : Float
one64 = fin false 1 (pos 0)

-- the larger, and the other operand where one is a NaN
unfoldable pub max_of : Float → Float → Float
max_of x y = cond (lt x y) y (cond (is_nan x) y x)

-- the smaller, and the other operand where one is a NaN
unfoldable pub min_of : Float → Float → Float
min_of x y = cond (lt y x) y (cond (is_nan x) y x)

-- neither a NaN nor an infinity
unfoldable pub is_finite : Float → Bool
is_finite nan = false
is_finite (inf s) = false
is_finite (fin s m e) = true

-- the number without its sign; a zero keeps the one it has
unfoldable pub abs_of : Float → Float
abs_of x = cond (lt x zero64) (neg x) x

-- 1e-10, as an f64
abbrev pub tiny : Float
tiny = fin false 7737125245533627 (negsuc 85)

-- "an entry with abs < 1e-10": what document 01 calls a zero
unfoldable pub is_zero : Float → Bool
is_zero x = lt (abs_of x) tiny
