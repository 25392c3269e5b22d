-- `extended_flat::update` meets its contract. Assumes nothing.
use mathlib.Core.Path.{sym, ap, ◌∙◌, subst}
use Rattle.sizes.specs.Sizes.{lengths_no}
use Rattle.extended_flat.specs.Flat.{Answered}
use Rattle.extended_flat.proofs.Ways as ways
use Rattle.extended_flat.proofs.update.Goals as goal

pub returns-then-not-whole : goal.returns-then-not-whole
returns-then-not-whole c =
    subst (Answered c.args.run.now c.args.counters.now c.args.distance.now c.args.gt_ids.now c.args.gt_bboxes.now c.args.pred_ids.now c.args.pred_bboxes.now c.args.threshold c.args.run.now c.args.counters.now c.args.distance.now) (sym (c.number.ensures ∙ (c.wrong_length.ensures ∙ ap lengths_no c.check_shape-shape.ensures))) (ways.no_state c.args.run.now c.args.counters.now c.args.distance.now c.args.gt_ids.now c.args.gt_bboxes.now c.args.pred_ids.now c.args.pred_bboxes.now c.args.threshold (sym c.whole.ensures ∙ c.if-not-whole.true))
