-- What a sound state has: used counts within the capacities, and no id twice in a table. Assumes nothing.
use mathlib.Core.Path.{◌≡◌}
use mathlib.Core.Bool.{true}
use Prim.Native.Nat.{◌≤◌}
use borrow.Author.Tests.{leb-true}
use lib.Dec.{leb}
use lib.ListN.{take}
use Rattle.counts.proofs.Tests.{both, all_three}
use Rattle.ids.specs.Ids.{distinct_of}
use Rattle.seen.specs.Seen.{hypotheses_sound}
use Rattle.partners.specs.Partners.{ids_sound, truths_sound}
use Rattle.metrics.specs.declared.MOTAccumulator.{MOTAccumulator}
use Rattle.metrics.specs.State.{sound_state}

pub record Sound (s : MOTAccumulator) : Type 0 where
  pub log : s.log.used ≤ 1024
  pub truths : s.truths.used ≤ 256
  pub truths_once : distinct_of (take s.truths.used s.truths.ids) ≡ true
  pub hypotheses : s.hypotheses.used ≤ 1024
  pub hypotheses_once : distinct_of (take s.hypotheses.used s.hypotheses.ids) ≡ true

pub sound_reads : (s : MOTAccumulator) → sound_state s ≡ true → Sound s
unfolding sound_state ids_sound hypotheses_sound
sound_reads s e =
    let t = s.truths in
    let h = s.hypotheses in
    let a = all_three (leb s.log.used 1024) (truths_sound t) (hypotheses_sound h) e in
    let b = both (leb t.used 256) (distinct_of (take t.used t.ids)) a.1 in
    let d = both (leb h.used 1024) (distinct_of (take h.used h.ids)) a.2 in
    record {
      log = leb-true s.log.used 1024 a.0;
      truths = leb-true t.used 256 b.0;
      truths_once = b.1;
      hypotheses = leb-true h.used 1024 d.0;
      hypotheses_once = d.1;
    }
