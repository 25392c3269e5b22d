use Rattle.std.proofs.Common.{◌<◌}
use Rattle.decimal_text.proofs.limbs.halve.Given as goal

abbrev pub invariant-loop-i : goal.invariant-loop-i
invariant-loop-i l = l.carry < 2
