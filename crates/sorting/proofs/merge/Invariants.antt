-- What stands in out, and what is still to come of the two runs, is the definition's.
use Rattle.sorting.proofs.MergeTurns.{Merging}
use Rattle.sorting.proofs.merge.Given as goal

abbrev pub invariant-loop-k : goal.invariant-loop-k
invariant-loop-k l = Merging l.keys l.a l.b l.initial.out l.out l.i l.j l.k
