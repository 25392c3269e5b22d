-- `pairing::sum_distances` meets its contract: after k turns the first k distances are added. Assumes nothing.
use mathlib.Core.Path.{◌≡◌}
use Rattle.pairing.specs.Pairing.{sum_of}
use Rattle.pairing.proofs.sum_distances.Given as goal

abbrev pub invariant-loop-k : goal.invariant-loop-k
invariant-loop-k l = l.sum ≡ sum_of l.m l.w l.rows l.cols l.k l.total
