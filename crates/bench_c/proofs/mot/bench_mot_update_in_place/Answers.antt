-- `bench_c::mot::bench_mot_update_in_place` is safe and ends. Assumes nothing.
use mathlib.Core.Path.{◌∙◌}
use Rattle.motmetrics_in_place.specs.Updated.{runs_of}
use Rattle.motmetrics_in_place.proofs.Kept.{used_kept}
use Rattle.bench_c.proofs.mot.bench_mot_update_in_place.Goals as goal

pub updates-preserved : goal.updates-preserved
updates-preserved c =
    let k = used_kept (runs_of c.updates.numbers c.updates.log_distances c.updates.table) c.updates.used _ c.args.object_ids.now c.args.hypothesis_ids.now c.args.distances.now c.updates.invariant.few_events c.updates.invariant.few_truths
    _ c.update_in_place-c.result c.update_in_place-c.ensures in
    let n = c.update_in_place-c.auto in
    record {
      four_columns = n.numbers ∙ c.updates.invariant.four_columns;
      one_column = n.log_distances ∙ c.updates.invariant.one_column;
      three_columns = n.table ∙ c.updates.invariant.three_columns;
      few_events = k.0;
      few_truths = k.1;
    }
