-- `search::search` meets its contract: what was done so far and a run from here make a run from the start. Assumes nothing.
use Prim.Native.Nat.{◌≤◌}
use Rattle.paths.specs.State.{state}
use Rattle.search.proofs.Exists.{measure}
use Rattle.search.proofs.SearchCode as code
use Rattle.search.proofs.search.Given as goal

abbrev pub invariant-loop-free : goal.invariant-loop-free
invariant-loop-free l =
    (n64 : l.n ≤ 64) × code.SearchInv l.n n64 (state l.initial.c l.initial.rows l.initial.cols) (state l.c l.rows l.cols) l.corrections l.paths

abbrev pub decreases-loop-free : goal.decreases-loop-free
decreases-loop-free l = measure l.n (state l.c l.rows l.cols)
