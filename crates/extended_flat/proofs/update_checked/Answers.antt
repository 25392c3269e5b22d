-- `extended_flat::update_checked` meets its contract. Assumes nothing.
use mathlib.Core.Path.{sym, ◌∙◌}
use Rattle.inplace.specs.InPlace.{state_of}
use Rattle.extended.proofs.Ways.{sound_used}
use Rattle.extended_flat.proofs.Ways as ways
use Rattle.extended_flat.proofs.update_checked.Goals as goal

pub returns-then-not-sound : goal.returns-then-not-sound
returns-then-not-sound c =
    ways.unsound c.args.run.now c.args.totals c.args.gt_ids.now c.args.gt_bboxes.now c.args.pred_ids.now c.args.pred_bboxes.now c.args.threshold (sym c.sound.ensures ∙ c.if-not-sound.true)

pub update_in_place-requires : goal.update_in_place-requires
update_in_place-requires c =
    (sound_used (state_of c.args.run.now c.args.totals) (sym c.sound.ensures ∙ c.if-not-sound.false), c.requires)

pub returns : goal.returns
returns c =
    ways.sound c.args.run.now c.args.totals c.args.gt_ids.now c.args.gt_bboxes.now c.args.pred_ids.now c.args.pred_bboxes.now c.args.threshold (sym c.sound.ensures ∙ c.if-not-sound.false)
    c.update_in_place.new.run c.update_in_place.result c.update_in_place.ensures
