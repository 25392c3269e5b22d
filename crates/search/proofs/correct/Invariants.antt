-- `search::correct` meets its contract, whatever table of rows goes with the marks. Assumes nothing.
use Prim.Native.Nat.{ℕ, ◌-◌}
use mathlib.Core.List.{List}
use Rattle.search.specs.Inner.{Marked}
use Rattle.search.proofs.SearchCode as code
use Rattle.search.proofs.correct.Given as goal

abbrev pub invariant-loop-outside : goal.invariant-loop-outside
invariant-loop-outside l = (rows : List ℕ) → Marked l.n l.initial.c rows l.cols l.initial.reached.rows l.initial.reached.cols → code.CorrInv l.n l.initial.c rows l.cols l.c l.reached.rows l.reached.cols l.times

abbrev pub decreases-loop-outside : goal.decreases-loop-outside
decreases-loop-outside l = 4225 - l.times
