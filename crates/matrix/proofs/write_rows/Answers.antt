-- `matrix::write_rows` meets its contract. Assumes nothing.
use mathlib.Core.Path.{refl}
use Prim.Native.Nat.{◌≤◌, ◌+◌, ◌-◌, ◌*◌, ◌/◌}
use native.Mathlib.Omega.{arith}
use lib.ListN.{length, length-take, length-drop}
use Rattle.matrix.specs.Matrix.{matrix_of}
use Rattle.matrix.proofs.Laws.{matrix_more, row_room}
use Rattle.matrix.proofs.write_rows.Goals as goal

pub loop-i-init : goal.loop-i-init
loop-i-init c = unfold matrix_of in refl

pub loop-i-preserved : goal.loop-i-preserved
loop-i-preserved c =
    let at = c.loop-i.i * (length c.args.pred.now / 4) in
    let r : at + length c.args.pred.now / 4 ≤ length c.loop-i.out =
    omega (arith, row_room c.loop-i.i _ _ _ c.loop-i-test.true c.requires.pred_in_bounds) in
    matrix_more _ _ _ _ _ _ _ at (length c.loop-i.out - at) refl c.loop-i.invariant
    (simp (length-take, length-drop) (omega (arith, r))) (rw c.box_at.ensures at c.write_row.ensures)
