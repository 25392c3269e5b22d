-- `sound_state` is true exactly where none of document 01's faults is there. Assumes nothing.
use mathlib.Core.Path.{◌≡◌}
use mathlib.Core.Bool.{true}
use borrow.Author.Tests.{leb-true, le-leb}
use lib.Dec.{leb}
use lib.ListN.{length}
use Rattle.counts.proofs.Tests.{all_three}
use Rattle.seen.specs.Seen.{hypotheses_sound}
use Rattle.seen.proofs.Faults.{ids_read, ids_are}
use Rattle.partners.specs.Partners.{ids_sound, truths_sound}
use Rattle.metrics.specs.declared.MOTAccumulator.{MOTAccumulator}
use Rattle.metrics.specs.State.{sound_state}
use Rattle.metrics.specs.Sound.{SoundState}

-- THE PLAIN READING OF REFUSAL 1, of tables that are 256 and 1,024 long, as a state's are
module _ (s : MOTAccumulator) (truths_long : length s.truths.ids ≡ 256) (hypotheses_long : length s.hypotheses.ids ≡ 1024) where
  pub state_reads : sound_state s ≡ true → SoundState s
  unfolding sound_state ids_sound hypotheses_sound
  state_reads e =
      let a = all_three (leb s.log.used 1024) (truths_sound s.truths) (hypotheses_sound s.hypotheses) e in
      record {
        log = leb-true s.log.used 1024 a.0;
        truths = ids_read 256 s.truths.ids s.truths.used truths_long a.1;
        hypotheses = ids_read 1024 s.hypotheses.ids s.hypotheses.used hypotheses_long a.2;
      }

  pub state_is : SoundState s → sound_state s ≡ true
  unfolding sound_state ids_sound hypotheses_sound
  state_is a =
      rw (
        le-leb s.log.used 1024 a.log,
        ids_are 256 s.truths.ids s.truths.used truths_long a.truths,
        ids_are 1024 s.hypotheses.ids s.hypotheses.used hypotheses_long a.hypotheses,
      )
