-- `metrics_in_place::book_in` meets its contract. Assumes nothing.
use mathlib.Core.Path.{◌≡◌, refl, ◌∙◌}
use Prim.Native.Nat.{◌*◌}
use lib.ListN.{length, take}
use mir.Facts.{to_z-of_z}
use Rattle.matrix.specs.Matrix.{matrix_of}
use Rattle.matrix.specs.declared.Measure.TheVariants.{Shared}
use Rattle.shape.proofs.Part as parts
use Rattle.shape.proofs.Sides.{Side, sides}
use Rattle.metrics_update.proofs.Steps as update
use Rattle.metrics_in_place.specs.InPlace.{runs_of, state_of, closed_of}
use Rattle.metrics_in_place.proofs.Steps as law
use Rattle.metrics_in_place.proofs.book_in.Goals as goal
use Rattle.metrics_in_place.proofs.book_in.Goals.{After-iou_matrix}

-- the frame is in shape
both : (c : After-iou_matrix) → Side (length c.args.gt_ids.now) (length c.args.gt_boxes.now) × Side (length c.args.hyp_ids.now) (length c.args.hyp_boxes.now)
both c = sides _ _ _ _ c.requires.hyp_boxes_value.0

-- the matrix is not refused, and lies in the front of its run
accepted : (c : After-iou_matrix) → c.iou_matrix.result ≡ 0
accepted c =
    c.iou_matrix.ensures.number
    ∙ update.shares_no (state_of (runs_of c.args.numbers.now c.args.log_distances.now c.args.table.now c.args.hypotheses.now) c.args.used) c.args.frame c.args.gt_ids.now c.args.hyp_ids.now c.args.gt_boxes.now c.args.hyp_boxes.now c.args.iou_threshold _ refl c.requires.hyp_boxes_value.0 (length c.args.m.now) c.requires.hyp_boxes_value.1

part : (c : After-iou_matrix) → take (length c.args.gt_ids.now * length c.args.hyp_ids.now) c.iou_matrix.new.out ≡ matrix_of Shared c.args.gt_boxes.now c.args.hyp_boxes.now (length c.args.gt_ids.now)
part c =
    parts.part Shared (length c.args.gt_ids.now) c.args.gt_boxes.now (length c.args.hyp_ids.now) c.args.hyp_boxes.now (both (goal.at.After-iou_matrix c).After-iou_matrix).0 (both (goal.at.After-iou_matrix c).After-iou_matrix).1 c.iou_matrix.result (accepted (goal.at.After-iou_matrix c).After-iou_matrix) c.args.m.now _ c.requires.hyp_boxes_value.1 c.iou_matrix.ensures.written

part_size : (c : After-iou_matrix) → length (take (length c.args.gt_ids.now * length c.args.hyp_ids.now) c.iou_matrix.new.out) ≡ length c.args.gt_ids.now * length c.args.hyp_ids.now
part_size c =
    parts.part_size Shared (length c.args.gt_ids.now) c.args.gt_boxes.now (length c.args.hyp_ids.now) c.args.hyp_boxes.now (both (goal.at.After-iou_matrix c).After-iou_matrix).0 (both (goal.at.After-iou_matrix c).After-iou_matrix).1 c.iou_matrix.result (accepted (goal.at.After-iou_matrix c).After-iou_matrix) c.args.m.now _ c.requires.hyp_boxes_value.1 c.iou_matrix.ensures.written

pub book_shares-requires : goal.book_shares-requires
book_shares-requires c = record { within = c.requires.within; gt_ids_len_bound = ((both (goal.at.book_shares-requires c).After-iou_matrix).0.few, (both (goal.at.book_shares-requires c).After-iou_matrix).1.few, part_size (goal.at.book_shares-requires c).After-iou_matrix) }

pub returns : goal.returns
returns c =
    law.framed (runs_of c.args.numbers.now c.args.log_distances.now c.args.table.now c.args.hypotheses.now) c.args.used c.args.frame c.args.gt_ids.now c.args.hyp_ids.now c.args.gt_boxes.now c.args.hyp_boxes.now c.args.iou_threshold _ refl c.requires.hyp_boxes_value.0 _ (to_z-of_z c.ranges.frame) _ (part (goal.at.returns c).After-iou_matrix)
    (runs_of c.book_shares.new.numbers c.book_shares.new.log_distances c.book_shares.new.table c.book_shares.new.hypotheses) (closed_of c.args.used c.book_shares.result) c.book_shares.ensures
