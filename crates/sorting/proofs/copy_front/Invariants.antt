-- `sorting::copy_front` meets its contract. The first i entries are the other run's.
use Rattle.std.proofs.Common.{◌≡◌, take}
use Rattle.sorting.proofs.copy_front.Given as goal

abbrev pub invariant-loop-i : goal.invariant-loop-i
invariant-loop-i l = take l.i l.to ≡ take l.i l.from
