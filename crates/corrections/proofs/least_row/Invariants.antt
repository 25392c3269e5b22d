-- `corrections::least_row` meets its contract: the minimum over the columns from `t` on, with the minimum so far, is that over all. Assumes nothing.
use Rattle.std.proofs.Common.{◌≡◌, ◌<◌, ◌≤◌, ◌-◌, true, drop, get_or, length}
use Rattle.std.specs.Float.{nan}
use Rattle.std.specs.Float.Ieee.{lt}
use Rattle.corrections.specs.Inner.{least_in}
use Rattle.corrections.proofs.least_row.Given as goal

abbrev pub invariant-loop-t : goal.invariant-loop-t
invariant-loop-t l =
    (l.t ≤ length l.columns) × (least_in l.line (drop l.t l.columns) l.m ≡ least_in l.line l.columns l.least)
    × (l.t < length l.columns → lt (get_or l.line (get_or l.columns l.t 0) nan) l.m ≡ true)

abbrev pub decreases-loop-t : goal.decreases-loop-t
decreases-loop-t l = length l.columns - l.t
