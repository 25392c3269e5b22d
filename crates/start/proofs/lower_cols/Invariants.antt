-- `start::lower_cols` meets its contract: the first `col` columns are lowered. Assumes nothing.
use mathlib.Core.Path.{◌≡◌}
use Rattle.start.specs.Steps.{cols_lowered}
use Rattle.start.proofs.lower_cols.Given as goal

abbrev pub invariant-loop-col : goal.invariant-loop-col
invariant-loop-col l = l.c ≡ cols_lowered l.n l.col l.initial.c
