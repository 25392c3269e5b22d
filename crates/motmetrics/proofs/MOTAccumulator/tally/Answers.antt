-- `motmetrics::MOTAccumulator::tally` meets its contract. Assumes nothing.
use Rattle.scores.proofs.Bounds.{few}
use Rattle.motmetrics.proofs.Sound.{log_few}
use Rattle.motmetrics.proofs.MOTAccumulator.tally.Goals as goal

pub tallied-requires : goal.tallied-requires
tallied-requires c = log_few _ c.requires

pub returns : goal.returns
returns c = (c.tallied.ensures, rw c.tallied.ensures (few _ _ (log_few _ c.requires)))
