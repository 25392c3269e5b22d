-- `ids::chain_lacks` meets its contract. Of the first i places those from at on don't hold the id. Assumes nothing.
use Rattle.ids.proofs.Chains.{Walk}
use Rattle.ids.proofs.chain_lacks.Given as goal

abbrev pub invariant-loop-at : goal.invariant-loop-at
invariant-loop-at l = Walk l.ids l.id l.i l.at

abbrev pub decreases-loop-at : goal.decreases-loop-at
decreases-loop-at l = l.at
