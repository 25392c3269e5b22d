-- `corrections::next_below` meets its contract: no entry from `from` to `t` is smaller than `m`. Assumes nothing.
use Rattle.std.proofs.Common.{◌≡◌, ◌<◌, ◌≤◌, ◌-◌, ℕ, false, drop, get_or, length}
use Rattle.std.specs.Float.{nan}
use Rattle.std.specs.Float.Ieee.{lt}
use Rattle.corrections.specs.Inner.{least_in}
use Rattle.corrections.proofs.next_below.Given as goal

abbrev pub invariant-loop-t : goal.invariant-loop-t
invariant-loop-t l =
    (l.from ≤ l.t) × (l.t ≤ length l.columns) × (least_in l.line (drop l.from l.columns) l.m ≡ least_in l.line (drop l.t l.columns) l.m)
    × ((s : ℕ) → l.from ≤ s → s < l.t → lt (get_or l.line (get_or l.columns s 0) nan) l.m ≡ false)

abbrev pub decreases-loop-t : goal.decreases-loop-t
decreases-loop-t l = length l.columns - l.t
