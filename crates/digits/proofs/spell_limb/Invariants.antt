use Rattle.std.proofs.Common.{◌≡◌, true}
use Rattle.digits.specs.Digits.{all_digits}
use Rattle.digits.proofs.spell_limb.Given as goal

abbrev pub invariant-loop-k : goal.invariant-loop-k
invariant-loop-k l = all_digits l.digits ≡ true
