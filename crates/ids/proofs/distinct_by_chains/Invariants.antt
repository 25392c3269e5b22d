-- `ids::distinct_by_chains` meets its contract. The first i ids are on their chains, and differ. Assumes nothing.
use Rattle.ids.proofs.Links.{Linked}
use Rattle.ids.proofs.distinct_by_chains.Given as goal

abbrev pub invariant-loop-i : goal.invariant-loop-i
invariant-loop-i l = Linked l.ids l.heads l.links l.i
