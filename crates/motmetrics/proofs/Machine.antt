-- Every state that machine values stand for has a table of 256 places, so the plain reading of refusal 1 is of every state that the code is
-- handed. `Is` is the relation that every argument of a proved function stands in. Assumes nothing.
use mathlib.Core.Path.{◌≡◌}
use mathlib.Core.Bool.{true}
use mathlib.Core.List.{List}
use lib.ListN.{length}
use mir.Val.{Val}
use denote.Laws.{Is}
use Rattle.motmetrics.specs.declared.MOTAccumulator.{MOTAccumulator}
use Rattle.motmetrics.specs.State.{sound_state}
use Rattle.motmetrics.specs.Sound.{SoundState}
use Rattle.motmetrics.specs.contracts.MOTAccumulator as states
use Rattle.motmetrics.proofs.Faults.{state_reads, state_is}

module _ (s : MOTAccumulator) (vs : List Val) (h : Is states.the_row s vs) where
  long : length s.last_match.ids ≡ 256
  long = h.1.1.1.0.1.1.0.1.0.1

  -- REFUSAL 1, EXACTLY, OF EVERY STATE THAT THE CODE HOLDS
  pub sound_has : sound_state s ≡ true → SoundState s
  sound_has = state_reads s long

  pub sound_by : SoundState s → sound_state s ≡ true
  sound_by = state_is s long
