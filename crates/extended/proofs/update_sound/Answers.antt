-- `extended::update_sound` meets its contract. Assumes nothing.
use mathlib.Core.Path.{refl, sym, ap, ◌∙◌}
use Prim.Native.Nat.{ℕ}
use Rattle.extended.specs.Update.{refused_at}
use Rattle.extended.proofs.Ways as ways
use Rattle.extended.proofs.update_sound.Goals as goal

pub returns-in-Err : goal.returns-in-Err
returns-in-Err c =
    c.refused.ensures
    ∙ (ap (λ (n : ℕ). refused_at n c.args.s) (c.number.ensures ∙ sym (ways.number_there _))
    ∙ ways.unpaired c.args.s c.args.gt_ids.now c.args.gt_bboxes.now c.args.pred_ids.now c.args.pred_bboxes.now c.args.threshold _ c.in-Err.ensures (ways.not_zero _))

pub book-requires : goal.book-requires
book-requires c =
    record { used_bound = c.requires; lie = ways.lies c.args.s c.args.gt_ids.now c.args.gt_bboxes.now c.args.pred_ids.now c.args.pred_bboxes.now c.args.threshold _ c.in-Ok.ensures refl }

pub returns-in-Ok : goal.returns-in-Ok
returns-in-Ok c =
    c.book.ensures ∙ ways.booked c.args.s c.args.gt_ids.now c.args.gt_bboxes.now c.args.pred_ids.now c.args.pred_bboxes.now c.args.threshold _ c.in-Ok.ensures refl
