-- `pairing::pair_in` meets its contract. Assumes nothing.
use mathlib.Core.Path.{◌≡◌, refl, ◌∙◌}
use native.Mathlib.Omega.{arith}
use Rattle.std.proofs.Common.{rules}
use Rattle.floats.specs.Float.{zero64}
use Rattle.refusals.specs.Refusals.{number_of}
use Rattle.pairing.specs.Pairing.{no_pairs, answered}
use Rattle.pairing.proofs.Ways as ways
use Rattle.pairing.proofs.pair_in.Goals as goal

pub returns-in_err-write_distances : goal.returns-in_err-write_distances
returns-in_err-write_distances c =
    let r = c.in_err-write_distances.field-0.0 in
    let e : answered c.from_residual.result ≡ no_pairs (number_of c.in_err-write_distances.field-0.0) 0 zero64 = search rules in
    e
    ∙ ways.bad_box c.args.gt_ids c.args.gt_bboxes.now c.args.pred_ids c.args.pred_bboxes.now c.args.threshold c.args.total _ refl c.requires.in_shape c.args.m.now c.requires.has_room
    (number_of r) c.in_err-write_distances.ensures.number (ways.number_ne r)

pub returns-then-gt_ids-eq0 : goal.returns-then-gt_ids-eq0
returns-then-gt_ids-eq0 c =
    c.no_pairs.ensures
    ∙ ways.no_truth c.args.gt_ids c.args.gt_bboxes.now c.args.pred_ids c.args.pred_bboxes.now c.args.threshold c.args.total _ refl c.requires.in_shape c.args.m.now c.requires.has_room
    0 c.in_ok-write_distances.ensures.number refl c.if-gt_ids-eq0.true

pub paired-requires : goal.paired-requires
paired-requires c =
    let p = ways.both_sides c.args.gt_ids c.args.gt_bboxes.now c.args.pred_ids c.args.pred_bboxes.now c.args.threshold c.args.total _ refl c.requires.in_shape in
    let x = c.if-gt_ids-eq0.false in (
      omega arith,
      p.0.few,
      p.1.few,
      ways.part_size c.args.gt_ids c.args.gt_bboxes.now c.args.pred_ids c.args.pred_bboxes.now c.args.threshold c.args.total _ refl c.requires.in_shape c.args.m.now c.requires.has_room
          0 c.in_ok-write_distances.ensures.number refl _ c.in_ok-write_distances.ensures.written,
    )

pub returns : goal.returns
returns c =
    c.paired.ensures
    ∙ ways.by_search c.args.gt_ids c.args.gt_bboxes.now c.args.pred_ids c.args.pred_bboxes.now c.args.threshold c.args.total _ refl c.requires.in_shape c.args.m.now c.requires.has_room
    0 c.in_ok-write_distances.ensures.number refl _ c.in_ok-write_distances.ensures.written c.if-gt_ids-eq0.false
