use Rattle.std.proofs.Common.{rules}
use Rattle.decimal_text.proofs.Decimals.{shown_numeral}
use Rattle.decimal_text.proofs.write_digits.Goals as goal

pub returns : goal.returns
returns c = record { part = _; laid = c.write_shown.ensures; numeral = shown_numeral c.args.digits.now c.first_shown.result c.requires.0 (search rules) (search rules) c.first_shown.ensures.1 }
