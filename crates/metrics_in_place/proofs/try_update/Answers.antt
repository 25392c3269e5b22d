-- `metrics_in_place::try_update` meets its contract. Assumes nothing.
use mathlib.Core.Path.{sym}
use native.Mathlib.Omega.{arith}
use Rattle.shape.proofs.Sides.{sides, room}
use Rattle.metrics_in_place.specs.InPlace.{runs_of}
use Rattle.metrics_in_place.proofs.Steps as law
use Rattle.metrics_in_place.proofs.try_update.Goals as goal

pub returns-in_err-check_shape : goal.returns-in_err-check_shape
returns-in_err-check_shape c =
    law.passed_on (runs_of c.args.numbers.now c.args.log_distances.now c.args.table.now c.args.hypotheses.now) c.args.used c.args.frame c.args.gt_ids.now c.args.hyp_ids.now c.args.gt_boxes.now c.args.hyp_boxes.now c.args.iou_threshold
    _ _ c.in_err-check_shape.ensures c.from_residual.ensures.1

pub overflow_mul-n : goal.overflow_mul-n
overflow_mul-n c =
    let h = sides _ _ _ _ (sym c.in_ok-check_shape.ensures) in
    let f = room _ _ h.0.few h.1.few in
    record { fits = omega arith }

pub book_in-requires-2 : goal.book_in-requires-2
book_in-requires-2 c =
    let h = sides _ _ _ _ (sym c.in_ok-check_shape.ensures) in
    record { within = c.requires; hyp_boxes_value = (sym c.in_ok-check_shape.ensures, room _ _ h.0.few h.1.few) }
