use Rattle.decimal_text.proofs.Laying.{no_sign, a_sign, nothing_laid}
use Rattle.decimal_text.proofs.write_sign.Goals as goal

pub returns-then-bits-eq0 : goal.returns-then-bits-eq0
returns-then-bits-eq0 c = rw (no_sign _ c.if-bits-eq0.true) (nothing_laid _)

pub returns : goal.returns
returns c = rw (a_sign _ c.if-bits-eq0.false) c.put.ensures
