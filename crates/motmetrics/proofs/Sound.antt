-- What a sound state has: used counts within the capacities, and no id twice. Assumes nothing.
use mathlib.Core.Path.{◌≡◌}
use mathlib.Core.Bool.{true}
use Prim.Native.Nat.{◌≤◌}
use borrow.Author.Tests.{leb-true}
use lib.Dec.{leb}
use lib.ListN.{take}
use Rattle.counts.proofs.Tests.{both}
use Rattle.ids.specs.Ids.{distinct_of}
use Rattle.partners.specs.Partners.{ids_sound, truths_sound}
use Rattle.motmetrics.specs.declared.MOTAccumulator.{MOTAccumulator}
use Rattle.motmetrics.specs.State.{sound_state}

pub log_few : (s : MOTAccumulator) → sound_state s ≡ true → s.log.used ≤ 1024
unfolding sound_state
log_few s e = leb-true s.log.used 1024 (both (leb s.log.used 1024) (truths_sound s.last_match) e).0

pub table_sound : (s : MOTAccumulator) → sound_state s ≡ true → (s.last_match.used ≤ 256) × (distinct_of (take s.last_match.used s.last_match.ids) ≡ true)
unfolding sound_state ids_sound
table_sound s e =
    let t = s.last_match in
    let b = both (leb t.used 256) (distinct_of (take t.used t.ids)) (both (leb s.log.used 1024) (truths_sound t) e).1 in
    (leb-true t.used 256 b.0, b.1)
