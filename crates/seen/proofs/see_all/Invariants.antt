-- `seen::see_all` meets its contract. The ids passed are seen in the run, and the rest are to come. Assumes nothing.
use Rattle.seen.proofs.Growth as law
use Rattle.seen.proofs.see_all.Given as goal

abbrev pub invariant-loop-id : goal.invariant-loop-id
invariant-loop-id l = law.Seeing l.initial.run l.used l.ids l.run l.count l.id-index
