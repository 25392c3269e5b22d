-- `sorting::sort_run` ends: each half is shorter than the run. Assumes nothing.
use Rattle.std.proofs.Common.{length}
use Rattle.sorting.proofs.+sort_run.Given as goal

abbrev pub decreases-sort_run : goal.decreases-sort_run
decreases-sort_run l = length l.order.now
