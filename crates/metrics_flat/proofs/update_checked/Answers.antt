-- `metrics_flat::update_checked` meets its contract. Assumes nothing.
use mathlib.Core.Path.{sym, ◌∙◌}
use mir.Facts.{to_z-of_z}
use Rattle.metrics_in_place.specs.InPlace.{runs_of}
use Rattle.metrics_flat.proofs.Ways as ways
use Rattle.metrics_flat.proofs.update_checked.Goals as goal

pub returns-then-not-sound : goal.returns-then-not-sound
returns-then-not-sound c =
    ways.unsound (runs_of c.args.numbers.now c.args.log_distances.now c.args.table.now c.args.hypotheses.now) c.args.used c.args.frame c.args.gt_ids.now c.args.hyp_ids.now c.args.gt_boxes.now c.args.hyp_boxes.now c.args.iou_threshold (sym c.sound.ensures ∙ c.if-not-sound.true)

pub update_in_place-requires : goal.update_in_place-requires
update_in_place-requires c =
    ways.within (runs_of c.args.numbers.now c.args.log_distances.now c.args.table.now c.args.hypotheses.now) c.args.used c.requires (sym c.sound.ensures ∙ c.if-not-sound.false)

pub returns : goal.returns
returns c =
    ways.sound (runs_of c.args.numbers.now c.args.log_distances.now c.args.table.now c.args.hypotheses.now) c.args.used c.args.frame c.args.gt_ids.now c.args.hyp_ids.now c.args.gt_boxes.now c.args.hyp_boxes.now c.args.iou_threshold (sym c.sound.ensures ∙ c.if-not-sound.false)
    (runs_of c.update_in_place.new.numbers c.update_in_place.new.log_distances c.update_in_place.new.table c.update_in_place.new.hypotheses) c.update_in_place.result (rw (to_z-of_z c.ranges.frame) at c.update_in_place.ensures)
