-- `metrics_flat::update` meets its contract. Assumes nothing.
use mathlib.Core.Path.{sym, ap, ◌∙◌, subst}
use Rattle.sizes.specs.Sizes.{lengths_no}
use Rattle.metrics_in_place.specs.InPlace.{runs_of}
use Rattle.metrics_flat.specs.Flat.{Answered}
use Rattle.metrics_flat.proofs.Ways as ways
use Rattle.metrics_flat.proofs.update.Goals as goal

pub returns-then-not-whole : goal.returns-then-not-whole
returns-then-not-whole c =
    let x = runs_of c.args.numbers.now c.args.log_distances.now c.args.table.now c.args.hypotheses.now in
    subst (Answered x c.args.used.now c.args.frame c.args.gt_ids.now c.args.hyp_ids.now c.args.gt_boxes.now c.args.hyp_boxes.now c.args.iou_threshold x c.args.used.now) (sym (c.number.ensures ∙ (c.wrong_length.ensures ∙ ap lengths_no c.check_shape-shape.ensures))) (ways.no_state x c.args.used.now c.args.frame c.args.gt_ids.now c.args.hyp_ids.now c.args.gt_boxes.now c.args.hyp_boxes.now c.args.iou_threshold (sym c.whole.ensures ∙ c.if-not-whole.true))
