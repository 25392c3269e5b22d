use Rattle.std.proofs.Common.{sym, ◌∙◌}
use Rattle.float_bits.proofs.Nans.{nan_constant, nan_pattern, number_pattern}
use Rattle.float_bits.proofs.float_of.Goals as goal

pub returns-then-bits-gt9218868437227405312 : goal.returns-then-bits-gt9218868437227405312
returns-then-bits-gt9218868437227405312 c = nan_constant ∙ sym (nan_pattern c.args.bits c.if-bits-gt9218868437227405312.true)

pub float_from_bits-result : goal.float_from_bits-result
float_from_bits-result c = rw (number_pattern c.args.bits c.if-bits-gt9218868437227405312.false) tt
