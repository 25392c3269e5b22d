-- `bench_c::metric_updates::bench_metrics_update_in_place` is safe and ends. Assumes nothing.
use mathlib.Core.Path.{◌∙◌}
use Rattle.metrics_in_place.specs.InPlace.{runs_of}
use Rattle.metrics_in_place.proofs.Kept.{used_kept}
use Rattle.bench_c.proofs.metric_updates.bench_metrics_update_in_place.Goals as goal

pub updates-preserved : goal.updates-preserved
updates-preserved c =
    let w = c.updates.invariant in
    let k = used_kept (runs_of c.updates.numbers c.updates.log_distances c.updates.table c.updates.hypotheses) c.updates.used _ c.args.gt_ids.now c.args.hyp_ids.now c.args.gt_boxes.now c.args.hyp_boxes.now c.args.iou_threshold
    (w.few_events, w.few_truths, w.few_hypotheses) _ c.update_in_place-c.result c.update_in_place-c.ensures in
    let n = c.update_in_place-c.auto in
    record {
      numbers = n.numbers ∙ w.numbers;
      distances = n.log_distances ∙ w.distances;
      table = n.table ∙ w.table;
      hypotheses = n.hypotheses ∙ w.hypotheses;
      few_events = k.0;
      few_truths = k.1;
      few_hypotheses = k.2;
    }
