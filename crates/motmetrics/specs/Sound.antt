-- Refusal 1 for a state, read without a computation: what a sound state is.
use Rattle.std.specs.Prelude.{◌≤◌}
use Rattle.seen.specs.Sound.{SoundIds}
use Rattle.motmetrics.specs.declared.MOTAccumulator.{MOTAccumulator}

-- none of document 01's faults: used counts within the capacities, no id twice; there is no counter beside them
pub record SoundState (s : MOTAccumulator) : Type 0 where
  pub log : s.log.used ≤ 1024
  pub matched : SoundIds 256 s.last_match.ids s.last_match.used
