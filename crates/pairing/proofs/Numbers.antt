-- Number 4, by the way that the code goes. Assumes nothing.
use mathlib.Core.Path.{◌≡◌, subst}
use mathlib.Core.Bool.{cond}
use mathlib.Core.List.{List}
use Prim.Native.Nat.{ℕ, ◌*◌, ◌/◌, ◌≤◌}
use native.Mathlib.Omega.{arith}
use borrow.Author.Tests.{le-ltb, eq-eqb}
use lib.ListN.{length}
use lib.Ieee.{Float}
use Rattle.matrix.specs.Matrix.{any_read_bad, room_no, distance_matrix_no}
use Rattle.matrix.specs.Matrix as matrices
use Rattle.shape.proofs.Sides.{Side}

-- with room for it the distance matrix is refused for a bad box alone
pub boxes_no : (gi : ℕ) (gt : List Float) (pi : ℕ) (pred : List Float) → Side gi (length gt) → Side pi (length pred)
    → (space : ℕ) → gi * pi ≤ space → distance_matrix_no gt pred space ≡ cond (any_read_bad gt pred) 4 0
unfolding distance_matrix_no matrices.shape_no room_no
boxes_no gi gt pi pred a b space r =
    let gf = a.few in
    let gb = a.boxes in
    let pf = b.few in
    let pb = b.boxes in
    let gs : length gt / 4 ≤ 64 = omega arith in
    let ps : length pred / 4 ≤ 64 = omega arith in
    let q : length gt / 4 * (length pred / 4) ≤ space = subst (λ (x : ℕ). x ≤ space) (λ i. gb i * pb i) r in
    simp (le-ltb _ _ gs, le-ltb _ _ ps, eq-eqb _ _ a.whole, eq-eqb _ _ b.whole, le-ltb _ _ q)
