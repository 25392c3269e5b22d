-- `matrix::write_row` meets its contract. The invariant: the row's first j places stand over the output. Assumes nothing.
use mathlib.Core.Path.{◌≡◌}
use Rattle.matrix.specs.Matrix.{row_of, overwrite}
use Rattle.matrix.proofs.write_row.Given as goal

abbrev pub invariant-loop-j : goal.invariant-loop-j
invariant-loop-j l = l.out ≡ overwrite (row_of l.m l.a l.run l.j) l.initial.out
