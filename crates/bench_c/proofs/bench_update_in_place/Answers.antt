-- `bench_c::bench_update_in_place` is safe and ends. Assumes nothing.
use mathlib.Core.Path.{◌∙◌}
use Rattle.extended_in_place.proofs.Kept.{used_kept}
use Rattle.bench_c.proofs.bench_update_in_place.Goals as goal

pub updates-preserved : goal.updates-preserved
updates-preserved c = (
  used_kept c.updates.run c.updates.totals c.args.gt_ids.now c.args.gt_bboxes.now c.args.pred_ids.now c.args.pred_bboxes.now c.args.threshold c.updates.invariant.0
      _ c.update_in_place-c.result c.update_in_place-c.ensures,
  c.update_in_place-c.auto.run ∙ c.updates.invariant.1,
)
