-- A refusal has a number. Assumes nothing.
use mathlib.Core.Path.{◌≡◌}
use native.Mathlib.Omega.{arith}
use Rattle.refusals.specs.Refusals.{number_of}
use Rattle.refusals.specs.declared.Refusal.{Refusal}
use Rattle.refusals.specs.declared.Refusal.TheVariants.{Unsound, TooMany, Misfit, EmptyBox, FullTable, NoRoom, Overflow}

pub not_zero : (x : Refusal) → number_of x ≡ 0 → ⊥
not_zero Unsound e = omega arith
not_zero TooMany e = omega arith
not_zero Misfit e = omega arith
not_zero EmptyBox e = omega arith
not_zero FullTable e = omega arith
not_zero NoRoom e = omega arith
not_zero Overflow e = omega arith
