-- `corrections::put_on` meets its contract: `m` is added so far to the first listed entries. Assumes nothing.
use mathlib.Core.Path.{refl}
use Rattle.square.proofs.Square.{line_none, line_more}
use Rattle.corrections.proofs.put_on.Goals as goal

pub loop-col-init : goal.loop-col-init
loop-col-init c = line_none _ _ _

pub loop-col-preserved : goal.loop-col-preserved
loop-col-preserved c = line_more _ _ c.loop-col.col-index _ _ _ c.loop-col.invariant refl
