-- `metrics_flat::update_whole` meets its contract. Assumes nothing.
use mir.Facts.{to_z-of_z}
use native.Mathlib.Omega.{arith}
use mathlib.Core.List.{[], ◌∷◌}
use lib.ListN.{length-set}
use Rattle.sizes.proofs.Laws.{whole_written}
use Rattle.metrics_in_place.specs.InPlace.{runs_of}
use Rattle.metrics_flat.proofs.Ways as ways
use Rattle.metrics_flat.proofs.update_whole.Goals as goal

pub bounds-used-0 : goal.bounds-used-0
bounds-used-0 c = let h = (ways.long _ _ _ _ _ c.requires).2 in omega arith

pub bounds-used-1 : goal.bounds-used-1
bounds-used-1 c = let h = (ways.long _ _ _ _ _ c.requires).2 in omega arith

pub bounds-used-2 : goal.bounds-used-2
bounds-used-2 c = let h = (ways.long _ _ _ _ _ c.requires).2 in omega arith

pub update_checked-c-requires : goal.update_checked-c-requires
update_checked-c-requires c = let h = ways.long _ _ _ _ _ c.requires in (h.0, h.1)

pub returns-then-number-ne0 : goal.returns-then-number-ne0
returns-then-number-ne0 c =
    ways.kept (runs_of c.args.numbers.now c.args.log_distances.now c.args.table.now c.args.hypotheses.now) c.args.used.now c.args.frame c.args.gt_ids.now c.args.hyp_ids.now c.args.gt_boxes.now c.args.hyp_boxes.now c.args.iou_threshold c.requires (runs_of c.update_checked-c.new.numbers c.update_checked-c.new.log_distances c.update_checked-c.new.table c.update_checked-c.new.hypotheses) c.update_checked-c.result (rw (to_z-of_z c.ranges.frame) at c.update_checked-c.ensures) c.if-number-ne0.true

pub bounds-used-0-2 : goal.bounds-used-0-2
bounds-used-0-2 c = let h = (ways.long _ _ _ _ _ c.requires).2 in omega arith

pub bounds-used-1-2 : goal.bounds-used-1-2
bounds-used-1-2 c = let h = (ways.long _ _ _ _ _ c.requires).2 in simp length-set (omega arith)

pub bounds-used-2-2 : goal.bounds-used-2-2
bounds-used-2-2 c = let h = (ways.long _ _ _ _ _ c.requires).2 in simp length-set (omega arith)

pub returns : goal.returns
returns c =
    ways.written (runs_of c.args.numbers.now c.args.log_distances.now c.args.table.now c.args.hypotheses.now) c.args.used.now c.args.frame c.args.gt_ids.now c.args.hyp_ids.now c.args.gt_boxes.now c.args.hyp_boxes.now c.args.iou_threshold c.requires (runs_of c.update_checked-c.new.numbers c.update_checked-c.new.log_distances c.update_checked-c.new.table c.update_checked-c.new.hypotheses) c.update_checked-c.result (rw (to_z-of_z c.ranges.frame) at c.update_checked-c.ensures) c.if-number-ne0.false _
    (whole_written c.args.used.now (_ ∷ _ ∷ _ ∷ []) (ways.long _ _ _ _ _ c.requires).2)
