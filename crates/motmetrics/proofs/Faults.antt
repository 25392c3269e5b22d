-- `sound_state` is true exactly where none of document 01's faults is there. Assumes nothing.
use mathlib.Core.Path.{◌≡◌}
use mathlib.Core.Bool.{true}
use borrow.Author.Tests.{leb-true, le-leb}
use lib.Dec.{leb}
use lib.ListN.{length}
use Rattle.counts.proofs.Tests.{both}
use Rattle.seen.proofs.Faults.{ids_read, ids_are}
use Rattle.partners.specs.Partners.{ids_sound, truths_sound}
use Rattle.motmetrics.specs.declared.MOTAccumulator.{MOTAccumulator}
use Rattle.motmetrics.specs.State.{sound_state}
use Rattle.motmetrics.specs.Sound.{SoundState}

-- THE PLAIN READING OF REFUSAL 1, of a table that is 256 long, as a state's is
module _ (s : MOTAccumulator) (long : length s.last_match.ids ≡ 256) where
  pub state_reads : sound_state s ≡ true → SoundState s
  unfolding sound_state ids_sound
  state_reads e =
      let a = both (leb s.log.used 1024) (truths_sound s.last_match) e in
      record {
        log = leb-true s.log.used 1024 a.0;
        matched = ids_read 256 s.last_match.ids s.last_match.used long a.1;
      }

  pub state_is : SoundState s → sound_state s ≡ true
  unfolding sound_state ids_sound
  state_is a = rw (le-leb s.log.used 1024 a.log, ids_are 256 s.last_match.ids s.last_match.used long a.matched)
