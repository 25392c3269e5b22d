-- `extended::update` meets its contract. Assumes nothing.
use mathlib.Core.Path.{sym, ◌∙◌}
use Rattle.extended.proofs.Ways as ways
use Rattle.extended.proofs.update.Goals as goal

pub returns-then-not-sound : goal.returns-then-not-sound
returns-then-not-sound c =
    c.refused.ensures ∙ ways.unsound c.args.s c.args.gt_ids.now c.args.gt_bboxes.now c.args.pred_ids.now c.args.pred_bboxes.now c.args.threshold (sym c.sound.ensures ∙ c.if-not-sound.true)

pub update_sound-requires : goal.update_sound-requires
update_sound-requires c = ways.sound_used _ (sym c.sound.ensures ∙ c.if-not-sound.false)

pub returns : goal.returns
returns c =
    c.update_sound.ensures ∙ ways.taken c.args.s c.args.gt_ids.now c.args.gt_bboxes.now c.args.pred_ids.now c.args.pred_bboxes.now c.args.threshold (sym c.sound.ensures ∙ c.if-not-sound.false)
