use Rattle.std.proofs.Common.{◌≡◌, drop}
use Rattle.numerals.specs.Numbers.{value_from}
use Rattle.numerals.proofs.digits.value.Given as goal

abbrev pub invariant-loop-b : goal.invariant-loop-b
invariant-loop-b g l = value_from g.row.BASE l.v (drop l.b-index l.word) ≡ value_from g.row.BASE 0 l.word
