use Rattle.std.proofs.Common.{arith}
use Rattle.decimal_text.proofs.Laying.{sign_short, name_written, number_written}
use Rattle.decimal_text.proofs.write_pattern.Goals as goal

pub write_name-requires : goal.write_name-requires
write_name-requires c = (omega arith, omega (arith, c.write_sign-at.ensures.ends, sign_short c.args.bits))

pub returns-then-exponent-eq2047 : goal.returns-then-exponent-eq2047
returns-then-exponent-eq2047 c = name_written c.write_sign-at.ensures c.if-exponent-eq2047.true c.write_name.ensures

pub write_number-requires : goal.write_number-requires
write_number-requires c = (omega arith, omega arith, omega (arith, c.write_sign-at.ensures.ends, sign_short c.args.bits))

pub returns : goal.returns
returns c = number_written c.write_sign-at.ensures c.if-exponent-eq2047.false c.write_number.ensures
