use Rattle.matrix_numbers.specs.Numbers.{any_bad}
use mathlib.Core.Path.{◌≡◌}
use mathlib.Core.Bool.{false}
use Rattle.matrix_numbers.proofs.any_bad.Given as goal

abbrev pub invariant-loop-i : goal.invariant-loop-i
invariant-loop-i l = any_bad l.run l.i ≡ false
