-- `metrics::MOTAccumulator::tally` meets its contract. Assumes nothing.
use Rattle.scores.proofs.Bounds.{few}
use Rattle.metrics.proofs.Sound.{sound_reads}
use Rattle.metrics.proofs.MOTAccumulator.tally.Goals as goal

pub tallied-requires : goal.tallied-requires
tallied-requires c = (sound_reads _ c.requires).log

pub returns : goal.returns
returns c = (c.tallied.ensures, rw c.tallied.ensures (few _ _ (sound_reads _ c.requires).log))
