-- `metrics_update::update` meets its contract. Assumes nothing.
use mathlib.Core.Path.{sym, ◌∙◌}
use mir.Facts.{to_z-of_z}
use Rattle.metrics_update.specs.Update.{update_of}
use Rattle.metrics_update.proofs.Steps as law
use Rattle.metrics_update.proofs.update.Goals as goal

pub returns-then-not-sound : goal.returns-then-not-sound
unfolding update_of
returns-then-not-sound c = rw (sym c.sound.ensures ∙ c.if-not-sound.true)

pub update_sound-requires : goal.update_sound-requires
update_sound-requires c = law.within _ (sym c.sound.ensures ∙ c.if-not-sound.false)

pub returns : goal.returns
unfolding update_of
returns c = rw (sym c.sound.ensures ∙ c.if-not-sound.false) (rw (to_z-of_z c.ranges.frame) at c.update_sound.ensures)
