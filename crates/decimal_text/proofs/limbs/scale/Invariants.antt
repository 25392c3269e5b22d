use Rattle.std.proofs.Common.{◌≤◌}
use Rattle.decimal_text.proofs.limbs.scale.Given as goal

abbrev pub invariant-loop-limb : goal.invariant-loop-limb
invariant-loop-limb l = l.carry ≤ 4611686018427387904
