use Rattle.std.proofs.Common.{◌≡◌, true}
use Rattle.digits.specs.Digits.{all_digits}
use Rattle.digits.proofs.spell.Given as goal

abbrev pub invariant-loop-i : goal.invariant-loop-i
invariant-loop-i l = all_digits l.digits ≡ true
