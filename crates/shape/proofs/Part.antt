-- The matrix of a frame in shape, written over places that have room for it: its part of them. Assumes nothing.
use mathlib.Core.Path.{◌≡◌, sym, ap, ◌∙◌}
use mathlib.Core.List.{List}
use Prim.Native.Nat.{ℕ, ◌*◌, ◌≤◌}
use native.Mathlib.Omega.{arith}
use lib.ListN.{length, take}
use lib.Seq.{take_at}
use lib.Ieee.{Float}
use Rattle.matrix.specs.declared.Measure.{Measure}
use Rattle.matrix.specs.Matrix.{matrix_of, overwrite, matrix_after}
use Rattle.matrix.proofs.Laws.{length_matrix, length-overwrite}
use Rattle.shape.proofs.Sides.{Side, room}

module _ (m : Measure) (gi : ℕ) (gt : List Float) (pi : ℕ) (pred : List Float) (a : Side gi (length gt)) (b : Side pi (length pred)) where
  pub fit : gi * pi ≤ 4096
  fit = room gi pi a.few b.few

  pub matrix_size : length (matrix_of m gt pred gi) ≡ gi * pi
  matrix_size = length_matrix m gt pred gi ∙ ap (λ (k : ℕ). gi * k) (sym b.boxes)

  module _ (number : ℕ) (good : number ≡ 0) (zeros out : List Float) (z : gi * pi ≤ length zeros) (o : out ≡ matrix_after m number gt pred zeros) where
    written : out ≡ overwrite (matrix_of m gt pred gi) zeros
    unfolding matrix_after
    written = o ∙ (ap (λ (k : ℕ). matrix_after m k gt pred zeros) good ∙ ap (λ (k : ℕ). overwrite (matrix_of m gt pred k) zeros) (sym a.boxes))

    pub out_size : length out ≡ length zeros
    out_size = let n = matrix_size in ap length written ∙ length-overwrite (matrix_of m gt pred gi) zeros (omega arith)

    pub has_room : gi * pi ≤ length out
    has_room = let l = out_size in omega arith

    pub part : take (gi * pi) out ≡ matrix_of m gt pred gi
    part = ap (take (gi * pi)) written ∙ take_at (matrix_of m gt pred gi) _ (gi * pi) matrix_size

    pub part_size : length (take (gi * pi) out) ≡ gi * pi
    part_size = ap length part ∙ matrix_size
