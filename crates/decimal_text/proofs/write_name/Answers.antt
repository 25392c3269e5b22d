use Rattle.decimal_text.proofs.Laying.{infinity_named, nan_named}
use Rattle.decimal_text.proofs.write_name.Goals as goal

pub returns-then-bits-eq0 : goal.returns-then-bits-eq0
returns-then-bits-eq0 c = rw (infinity_named _ c.if-bits-eq0.true) c.put.ensures

pub returns : goal.returns
returns c = rw (nan_named _ c.if-bits-eq0.false) c.put-2.ensures
