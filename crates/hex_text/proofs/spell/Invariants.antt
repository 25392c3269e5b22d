use Rattle.std.proofs.Common.{◌≡◌, ◌++◌, length, drop}
use Rattle.io.specs.Digits.{last_digits}
use Rattle.hex_text.specs.Spelled.{spelled}
use Rattle.hex_text.proofs.spell.Given as goal

abbrev pub invariant-loop-i : goal.invariant-loop-i
invariant-loop-i l = (length l.letters ≡ 16) × (last_digits 16 l.i l.rest ++ drop l.i l.letters ≡ spelled l.n)
