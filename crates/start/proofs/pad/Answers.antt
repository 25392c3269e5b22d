-- `start::pad` meets its contract: the first `row` rows stand in the square. Assumes nothing.
use Rattle.start.proofs.StepsCode.{part_more}
use Rattle.start.proofs.pad.Goals as goal

pub loop-row-preserved : goal.loop-row-preserved
loop-row-preserved c = part_more _ _ _ c.loop-row.row _ _ _ c.requires.2 c.loop-row-test.true c.loop-row.invariant c.pad_row.ensures
