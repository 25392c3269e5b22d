-- `bench_c::metric_updates::bench_metrics_update_in_place` is safe and ends. Assumes nothing.
use Rattle.metrics_in_place.specs.InPlace.{runs_of, Within}
use Rattle.bench_c.proofs.metric_updates.bench_metrics_update_in_place.Given as goal

abbrev pub invariant-updates : goal.invariant-updates
invariant-updates l =
    Within (runs_of l.numbers l.log_distances l.table l.hypotheses) l.used
