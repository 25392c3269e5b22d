use Rattle.std.proofs.Common.{sym}
use Rattle.float_bits.proofs.Nans.{only_nan, nan_bits_lem}
use Rattle.float_bits.proofs.bits_of.Goals as goal

pub returns-then-is_nan : goal.returns-then-is_nan
returns-then-is_nan c = rw (only_nan c.args.x (sym c.if-is_nan.ensures.value)) (sym nan_bits_lem)
