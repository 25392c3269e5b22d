-- `inplace::undo` meets its contract. What is left to put back is the log's first k rows. Assumes nothing.
use mathlib.Core.Path.{◌≡◌}
use lib.ListN.{length}
use Rattle.inplace.specs.InPlace.{undone}
use Rattle.inplace.proofs.undo.Given as goal

abbrev pub invariant-loop-k : goal.invariant-loop-k
invariant-loop-k l = (length l.run ≡ 2304) × (undone l.run l.places l.log l.k ≡ undone l.initial.run l.places l.log l.n)
