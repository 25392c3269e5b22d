-- `sorting::put_last` meets its contract. With the last entry set at i the run is the others with that entry put in there.
use Rattle.std.proofs.Common.{◌≡◌, ◌≤◌, set, take}
use Rattle.sorting.proofs.Insertion.{put_at}
use Rattle.sorting.proofs.put_last.Given as goal

abbrev pub invariant-loop-i : goal.invariant-loop-i
invariant-loop-i l = (l.p ≤ l.i) × (set l.run l.i l.k ≡ put_at l.i l.k (take l.last l.initial.run))
