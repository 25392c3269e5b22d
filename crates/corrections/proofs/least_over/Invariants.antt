-- `corrections::least_over` meets its contract: `m` is the minimum of the rows so far, whatever C the columns are outside of. Assumes nothing.
use mathlib.Core.Path.{◌≡◌}
use mathlib.Core.Bool.{Bool, false}
use mathlib.Core.List.{List}
use Rattle.square.specs.Index.{Picked}
use Rattle.corrections.specs.Correction.{least_rows}
use Rattle.corrections.proofs.least_over.Given as goal

abbrev pub invariant-loop-row : goal.invariant-loop-row
invariant-loop-row l = (C : List Bool) → Picked false C l.n l.fn.columns l.used → l.m ≡ least_rows l.c l.n l.rs C l.row
