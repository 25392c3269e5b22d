-- `replay::play_frame` meets its contract. Assumes nothing.
use mathlib.Core.Path.{◌∙◌}
use lib.Ieee.{of_bits}
use Rattle.counts.proofs.Ids.{told}
use Rattle.metrics_update.specs.Update.{update_of}
use Rattle.replay.specs.Replay.{half}
use Rattle.replay.proofs.Ways.{extended_refuses, metrics_refuses, both_book}
use Rattle.replay.proofs.play_frame.Goals as goal

pub returns-then-e-ne0 : goal.returns-then-e-ne0
unfolding of_bits
returns-then-e-ne0 c =
    c.refused.ensures ∙ extended_refuses c.args.b c.args.frame c.args.truth_ids.now c.args.truth_boxes.now c.args.ids.now c.args.boxes.now c.update-e.ensures c.if-e-ne0.true

pub returns-then-m-ne0 : goal.returns-then-m-ne0
unfolding of_bits
returns-then-m-ne0 c =
    let q = told (λ z. update_of c.args.b.metrics z c.args.truth_ids.now c.args.ids.now c.args.truth_boxes.now c.args.boxes.now half) c.args.frame c.ranges.frame.sfits c.update-m.ensures in
    c.refused-then-m-ne0.ensures ∙ metrics_refuses c.args.b c.args.frame c.args.truth_ids.now c.args.truth_boxes.now c.args.ids.now c.args.boxes.now c.update-e.ensures q c.if-e-ne0.false c.if-m-ne0.true

pub returns : goal.returns
unfolding of_bits
returns c =
    let q = told (λ z. update_of c.args.b.metrics z c.args.truth_ids.now c.args.ids.now c.args.truth_boxes.now c.args.boxes.now half) c.args.frame c.ranges.frame.sfits c.update-m.ensures in
    rw c.added-row.ensures (both_book c.args.b c.args.frame c.args.truth_ids.now c.args.truth_boxes.now c.args.ids.now c.args.boxes.now c.update-e.ensures q c.if-e-ne0.false c.if-m-ne0.false)
