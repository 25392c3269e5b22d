-- The first i entries have been put in, and the rest is to come.
use Rattle.sorting.proofs.Insertion.{Putting}
use Rattle.sorting.proofs.sort_short.Given as goal

abbrev pub invariant-loop-i : goal.invariant-loop-i
invariant-loop-i l = Putting l.keys l.initial.order l.order l.i
