-- `metrics_update::update_sound` meets its contract. Assumes nothing.
use mathlib.Core.Path.{◌≡◌, refl, sym, ap, ◌∙◌}
use Prim.Native.Nat.{◌*◌, ◌≤◌}
use native.Mathlib.Omega.{arith}
use lib.ListN.{length, take}
use mir.Facts.{to_z-of_z}
use Rattle.matrix.specs.Matrix.{matrix_of}
use Rattle.matrix.specs.declared.Measure.TheVariants.{Shared}
use Rattle.shape.proofs.Part as parts
use Rattle.shape.proofs.Sides.{Side}
use Rattle.metrics_update.specs.Update.{paired_after}
use Rattle.metrics_update.proofs.Steps as law
use Rattle.metrics_update.proofs.update_sound.Goals as goal
use Rattle.metrics_update.proofs.update_sound.Goals.{After-iou_matrix, In_default}

-- the frame is in shape
both : (c : In_default) → Side (length c.args.gt_ids.now) (length c.args.gt_boxes.now) × Side (length c.args.hyp_ids.now) (length c.args.hyp_boxes.now)
both c =
    law.both_sides c.args.s c.args.frame c.args.gt_ids.now c.args.hyp_ids.now c.args.gt_boxes.now c.args.hyp_boxes.now c.args.iou_threshold 0 c.in_default.ensures refl

fit : (c : In_default) → length c.args.gt_ids.now * length c.args.hyp_ids.now ≤ 4096
fit c =
    parts.fit Shared (length c.args.gt_ids.now) c.args.gt_boxes.now (length c.args.hyp_ids.now) c.args.hyp_boxes.now (both (goal.at.In_default c).In_default).0 (both (goal.at.In_default c).In_default).1

-- the matrix is not refused, and lies in the front of its array
accepted : (c : After-iou_matrix) → c.iou_matrix.result ≡ 0
accepted c =
    c.iou_matrix.ensures.number
    ∙ law.shares_no c.args.s c.args.frame c.args.gt_ids.now c.args.hyp_ids.now c.args.gt_boxes.now c.args.hyp_boxes.now c.args.iou_threshold 0 c.in_default.ensures refl 4096 (fit (goal.at.After-iou_matrix c).In_default)

has_room : (c : After-iou_matrix) → length c.args.gt_ids.now * length c.args.hyp_ids.now ≤ length c.iou_matrix.new.out
has_room c =
    parts.has_room Shared (length c.args.gt_ids.now) c.args.gt_boxes.now (length c.args.hyp_ids.now) c.args.hyp_boxes.now (both (goal.at.After-iou_matrix c).In_default).0 (both (goal.at.After-iou_matrix c).In_default).1 c.iou_matrix.result (accepted (goal.at.After-iou_matrix c).After-iou_matrix) _ _ (fit (goal.at.After-iou_matrix c).In_default) c.iou_matrix.ensures.written

part : (c : After-iou_matrix) → take (length c.args.gt_ids.now * length c.args.hyp_ids.now) c.iou_matrix.new.out ≡ matrix_of Shared c.args.gt_boxes.now c.args.hyp_boxes.now (length c.args.gt_ids.now)
part c =
    parts.part Shared (length c.args.gt_ids.now) c.args.gt_boxes.now (length c.args.hyp_ids.now) c.args.hyp_boxes.now (both (goal.at.After-iou_matrix c).In_default).0 (both (goal.at.After-iou_matrix c).In_default).1 c.iou_matrix.result (accepted (goal.at.After-iou_matrix c).After-iou_matrix) _ _ (fit (goal.at.After-iou_matrix c).In_default) c.iou_matrix.ensures.written

part_size : (c : After-iou_matrix) → length (take (length c.args.gt_ids.now * length c.args.hyp_ids.now) c.iou_matrix.new.out) ≡ length c.args.gt_ids.now * length c.args.hyp_ids.now
part_size c =
    ap length (part (goal.at.After-iou_matrix c).After-iou_matrix) ∙ parts.matrix_size Shared (length c.args.gt_ids.now) c.args.gt_boxes.now (length c.args.hyp_ids.now) c.args.hyp_boxes.now (both (goal.at.After-iou_matrix c).In_default).0 (both (goal.at.After-iou_matrix c).In_default).1

pub returns-in-Err : goal.returns-in-Err
returns-in-Err c =
    law.misshapen c.args.s c.args.frame c.args.gt_ids.now c.args.hyp_ids.now c.args.gt_boxes.now c.args.hyp_boxes.now c.args.iou_threshold _ (c.number.ensures ∙ c.in-Err.ensures) (λ z. law.some_number _ (sym c.number.ensures ∙ z))

pub overflow_mul-n : goal.overflow_mul-n
overflow_mul-n c = let f = fit (goal.at.overflow_mul-n c).In_default in record { fits = omega arith }

pub slice_bounds-m-end : goal.slice_bounds-m-end
slice_bounds-m-end c = has_room (goal.at.slice_bounds-m-end c).After-iou_matrix

pub slice_bounds-book_shares-end : goal.slice_bounds-book_shares-end
slice_bounds-book_shares-end c = sym (part_size (goal.at.slice_bounds-book_shares-end c).After-iou_matrix)

pub book_shares-requires : goal.book_shares-requires
book_shares-requires c =
    record { within = c.requires; gt_ids_len_bound = ((both (goal.at.book_shares-requires c).In_default).0.few, (both (goal.at.book_shares-requires c).In_default).1.few, part_size (goal.at.book_shares-requires c).After-iou_matrix) }

pub returns : goal.returns
returns c =
    c.book_shares.ensures.0
    ∙ ((λ j. paired_after c.args.s (to_z-of_z c.ranges.frame j) c.args.gt_ids.now c.args.hyp_ids.now (part (goal.at.returns c).After-iou_matrix j) c.args.iou_threshold)
    ∙ law.framed c.args.s c.args.frame c.args.gt_ids.now c.args.hyp_ids.now c.args.gt_boxes.now c.args.hyp_boxes.now c.args.iou_threshold 0 c.in_default.ensures refl)
