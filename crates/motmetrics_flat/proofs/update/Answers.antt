-- `motmetrics_flat::update` meets its contract. Assumes nothing.
use mathlib.Core.Path.{sym, ap, ◌∙◌, subst}
use Rattle.sizes.specs.Sizes.{lengths_no}
use Rattle.motmetrics_in_place.specs.Updated.{runs_of}
use Rattle.motmetrics_flat.specs.Flat.{Answered}
use Rattle.motmetrics_flat.proofs.Ways as ways
use Rattle.motmetrics_flat.proofs.update.Goals as goal

pub returns-then-not-whole : goal.returns-then-not-whole
returns-then-not-whole c =
    let x = runs_of c.args.numbers.now c.args.log_distances.now c.args.table.now in
    subst (Answered x c.args.used.now c.args.frame_id c.args.object_ids.now c.args.hypothesis_ids.now c.args.distances.now x c.args.used.now) (sym (c.number.ensures ∙ (c.wrong_length.ensures ∙ ap lengths_no c.check_frame-shape.ensures))) (ways.no_state x c.args.used.now c.args.frame_id c.args.object_ids.now c.args.hypothesis_ids.now c.args.distances.now (sym c.whole.ensures ∙ c.if-not-whole.true))
