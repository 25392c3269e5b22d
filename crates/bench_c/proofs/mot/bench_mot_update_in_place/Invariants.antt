-- `bench_c::mot::bench_mot_update_in_place` is safe and ends. Assumes nothing.
use lib.ListN.{length}
use Rattle.motmetrics_in_place.specs.Updated.{Within}
use Rattle.bench_c.proofs.mot.bench_mot_update_in_place.Given as goal

abbrev pub invariant-updates : goal.invariant-updates
invariant-updates l =
    Within (length l.numbers) (length l.log_distances) (length l.table) l.used
