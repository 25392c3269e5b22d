-- `motmetrics_update::update` meets its contract. Assumes nothing.
use mathlib.Core.Path.{sym, ◌∙◌}
use mir.Facts.{to_z-of_z}
use borrow.Author.Tests.{not-true, not-false}
use Rattle.motmetrics_update.proofs.Steps as law
use Rattle.motmetrics_update.proofs.update.Goals as goal

pub returns-then-not-sound : goal.returns-then-not-sound
returns-then-not-sound c =
    rw c.number.ensures (law.unsound c.args.s c.args.frame_id c.args.object_ids.now c.args.hypothesis_ids.now c.args.distances.now (sym c.sound.ensures ∙ not-true _ c.if-not-sound.true-raw))

pub update_sound-requires : goal.update_sound-requires
update_sound-requires c = law.used_within _ (sym c.sound.ensures ∙ not-false _ c.if-not-sound.false-raw)

pub returns : goal.returns
returns c =
    rw (to_z-of_z c.ranges.frame_id) at c.update_sound.ensures
    ∙ law.sound c.args.s c.args.frame_id c.args.object_ids.now c.args.hypothesis_ids.now c.args.distances.now (sym c.sound.ensures ∙ not-false _ c.if-not-sound.false-raw)
