-- `id_runs::count_new` meets its contract. Assumes nothing.
use Rattle.id_runs.proofs.Counting.{Counting}
use Rattle.id_runs.proofs.count_new.Given as goal

abbrev pub invariant-loop-id : goal.invariant-loop-id
invariant-loop-id l = Counting l.known l.ids l.fresh l.count l.id-index
