-- `pairing::pair` meets its contract. Assumes nothing.
use mathlib.Core.Path.{◌≡◌, refl, ◌∙◌}
use native.Mathlib.Omega.{arith}
use Rattle.std.proofs.Common.{rules}
use Rattle.floats.specs.Float.{zero64}
use Rattle.refusals.specs.Refusals.{number_of}
use Rattle.pairing.specs.Pairing.{no_pairs, answered}
use Rattle.pairing.proofs.Ways as ways
use Rattle.pairing.proofs.pair.Goals as goal

pub returns-in_err-check_shape : goal.returns-in_err-check_shape
returns-in_err-check_shape c =
    let r = c.in_err-check_shape.field-0.0 in
    let e : answered c.from_residual.result ≡ no_pairs (number_of c.in_err-check_shape.field-0.0) 0 zero64 = search rules in
    e
    ∙ ways.misshapen c.args.gt_ids c.args.gt_bboxes.now c.args.pred_ids c.args.pred_bboxes.now c.args.threshold c.args.total
    (number_of r) c.in_err-check_shape.ensures (ways.number_ne r)

pub overflow_mul-n : goal.overflow_mul-n
overflow_mul-n c =
    let h = ways.fit c.args.gt_ids c.args.gt_bboxes.now c.args.pred_ids c.args.pred_bboxes.now c.args.threshold c.args.total 0 c.in_ok-check_shape.ensures refl in
    record { fits = omega arith }

pub pair_within-requires-else-n-le1024-clause-has_room : goal.pair_within-requires-else-n-le1024-clause-has_room
pair_within-requires-else-n-le1024-clause-has_room c =
    ways.fit c.args.gt_ids c.args.gt_bboxes.now c.args.pred_ids c.args.pred_bboxes.now c.args.threshold c.args.total 0 c.in_ok-check_shape.ensures refl
