-- `matrix::write_row` meets its contract. Assumes nothing.
use mathlib.Core.Path.{refl}
use Prim.Native.Nat.{◌<◌}
use native.Mathlib.Omega.{arith}
use lib.ListN.{length}
use Rattle.matrix.specs.Matrix.{row_of}
use Rattle.matrix.proofs.Laws.{row_more}
use Rattle.matrix.proofs.write_row.Goals as goal

pub loop-j-init : goal.loop-j-init
loop-j-init c = unfold row_of in refl

pub loop-j-preserved : goal.loop-j-preserved
loop-j-preserved c =
    let h : c.loop-j.j < length c.loop-j.out = omega arith in
    let k : c.loop-j.j < length c.args.out.now = omega arith in
    rw (c.loop-j.invariant, c.measured.ensures, c.box_at.ensures) (row_more _ _ _ _ _ k)
