-- Document 01, "Lifecycles and events": what a fragmentation is, what a coverage is, and the class that it falls in.
use Rattle.std.specs.Prelude.{Bool, false, not, ◌&&◌, cond, ℕ, ℤ, pos, negsuc, Float}
use Rattle.std.specs.Int.Signed.{lt_z}
use Rattle.std.specs.Float.{binary64, fin}
use Rattle.std.specs.Float.Ieee.{div, of_int, lt, le}
use Rattle.floats.specs.Float.{zero64}
use Rattle.counts.specs.Counts.{same_id}
use Rattle.lifecycle_parts.specs.declared.Class.{Class}
use Rattle.lifecycle_parts.specs.declared.Class.TheVariants.{MostlyTracked, PartiallyTracked, MostlyLost}

-- "if detected is now over 1 and the object wasn't matched before, one fragmentation"
unfoldable pub fragments : ℤ → Bool → Bool
fragments detected before = lt_z (pos 1) detected && not before

-- "Coverage is tracked / detected, 0.0 at detected 0"
unfoldable pub share_of : ℤ → ℤ → Float
share_of tracked detected = cond (same_id detected (pos 0)) zero64 (div binary64 (of_int binary64 tracked) (of_int binary64 detected))

-- the literals 0.8 and 0.2
abbrev pub mostly : Float
mostly = fin false 3602879701896397 (negsuc 51)

abbrev pub hardly : Float
hardly = fin false 3602879701896397 (negsuc 53)

-- "At least 0.8 is mostly tracked, below 0.2 mostly lost, else partly"
unfoldable pub class_of : Float → Class
class_of coverage = cond (le mostly coverage) MostlyTracked (cond (lt coverage hardly) MostlyLost PartiallyTracked)

-- ---- what stands for each class: no number but 0, and what it adds to the three totals
pub record Totals : Type 0 where
  pub tracked : ℕ
  pub partially : ℕ
  pub lost : ℕ

abbrev pub class_no : Class → ℕ
class_no c = 0

abbrev pub class_totals : Class → Totals
class_totals MostlyTracked = record { tracked = 1; partially = 0; lost = 0 }
class_totals PartiallyTracked = record { tracked = 0; partially = 1; lost = 0 }
class_totals MostlyLost = record { tracked = 0; partially = 0; lost = 1 }
