-- `extended_in_place::update_in_place` meets its contract. Assumes nothing.
use mathlib.Core.Path.{refl, sym, subst, ◌∙◌}
use Prim.Native.Nat.{ℕ}
use Rattle.inplace.specs.InPlace.{state_of}
use Rattle.extended.proofs.Ways as extended
use Rattle.extended_in_place.specs.Updated.{Updated}
use Rattle.extended_in_place.proofs.Ways as ways
use Rattle.extended_in_place.proofs.update_in_place.Goals as goal

pub returns-in-Err : goal.returns-in-Err
returns-in-Err c =
    subst (λ (n : ℕ). Updated c.args.run.now c.args.totals c.args.gt_ids.now c.args.gt_bboxes.now c.args.pred_ids.now c.args.pred_bboxes.now c.args.threshold c.args.run.now (record { number = n; totals = c.args.totals }))
    (extended.number_there _ ∙ sym c.number.ensures)
    (ways.unpaired c.args.run.now c.args.totals c.args.gt_ids.now c.args.gt_bboxes.now c.args.pred_ids.now c.args.pred_bboxes.now c.args.threshold _ c.in-Err.ensures (extended.not_zero _))

pub book-requires : goal.book-requires
book-requires c =
    record { used_bound = (c.requires.0, c.requires.1); lie = extended.lies (state_of c.args.run.now c.args.totals) c.args.gt_ids.now c.args.gt_bboxes.now c.args.pred_ids.now c.args.pred_bboxes.now c.args.threshold _ c.in-Ok.ensures refl }

pub returns-in-Ok : goal.returns-in-Ok
returns-in-Ok c =
    ways.booked c.args.run.now c.args.totals c.args.gt_ids.now c.args.gt_bboxes.now c.args.pred_ids.now c.args.pred_bboxes.now c.args.threshold _ c.in-Ok.ensures refl
    c.book.new.run c.book.result c.book.ensures
