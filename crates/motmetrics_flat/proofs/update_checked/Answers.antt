-- `motmetrics_flat::update_checked` meets its contract. Assumes nothing.
use mathlib.Core.Path.{sym, ◌∙◌}
use mir.Facts.{to_z-of_z}
use Rattle.motmetrics_in_place.specs.Updated.{runs_of}
use Rattle.motmetrics_flat.proofs.Ways as ways
use Rattle.motmetrics_flat.proofs.update_checked.Goals as goal

pub returns-then-not-sound : goal.returns-then-not-sound
returns-then-not-sound c =
    ways.unsound (runs_of c.args.numbers.now c.args.log_distances.now c.args.table.now) c.args.used c.args.frame_id c.args.object_ids.now c.args.hypothesis_ids.now c.args.distances.now (sym c.sound.ensures ∙ c.if-not-sound.true)

pub update_in_place-requires : goal.update_in_place-requires
update_in_place-requires c =
    ways.within (runs_of c.args.numbers.now c.args.log_distances.now c.args.table.now) c.args.used c.requires (sym c.sound.ensures ∙ c.if-not-sound.false)

pub returns : goal.returns
returns c =
    ways.sound (runs_of c.args.numbers.now c.args.log_distances.now c.args.table.now) c.args.used c.args.frame_id c.args.object_ids.now c.args.hypothesis_ids.now c.args.distances.now (sym c.sound.ensures ∙ c.if-not-sound.false)
    (runs_of c.update_in_place.new.numbers c.update_in_place.new.log_distances c.update_in_place.new.table) c.update_in_place.result (rw (to_z-of_z c.ranges.frame_id) at c.update_in_place.ensures)
