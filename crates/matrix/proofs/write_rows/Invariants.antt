-- `matrix::write_rows` meets its contract. The invariant: the first i rows stand over the output. Assumes nothing.
use mathlib.Core.Path.{◌≡◌}
use Rattle.matrix.specs.Matrix.{matrix_of, overwrite}
use Rattle.matrix.proofs.write_rows.Given as goal

abbrev pub invariant-loop-i : goal.invariant-loop-i
invariant-loop-i l = l.out ≡ overwrite (matrix_of l.m l.gt l.pred l.i) l.initial.out
