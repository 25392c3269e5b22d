-- Document 01's branches of a frame that is not refused: no truth, and no predictions. Assumes nothing.
use mathlib.Core.Path.{◌≡◌, refl, sym, ap, ◌∙◌, subst}
use mathlib.Core.List.{List}
use Prim.Native.Nat.{ℕ, ◌*◌, ◌<◌}
use native.Mathlib.Omega.{arith}
use borrow.Author.Tests.{eq-eqb, ne_eqb}
use lib.ListN.{length, get_or}
use lib.Ieee.{Float}
use Rattle.matrix.specs.Matrix.{matrix_of}
use Rattle.matrix.specs.declared.Measure.TheVariants.{Away}
use Rattle.matrix.proofs.Laws.{length_matrix, or_zero}
use Rattle.optimize.specs.declared.AssignmentResult.{AssignmentResult}
use Rattle.optimize.specs.Answer.{rows_alone}
use Rattle.solver.specs.Solution.{solution_of}
use Rattle.solver.proofs.Lists.{solution_alone, alone_at}
use Rattle.shape.specs.Shape.{shape_no}
use Rattle.shape.proofs.Sides.{Side, sides}
use Rattle.pairing.specs.Pairing.{Pairing, pairing_no, sum_of, no_pairs, pairs_in, paired_of, frame_pairs, pairing_of}
use Rattle.optimize.proofs.Number.{taken}
use Rattle.pairing.proofs.Ways.{accept}

-- no pair, so many rows left and predictions extra, and the total as it was
pub record Unpaired (lefts extra : ℕ) (total : Float) (p : Pairing) : Type 0 where
  pub number : p.number ≡ 0
  pub pairs : p.pairs ≡ 0
  pub rows_left : p.lefts ≡ lefts
  pub left_at : (k : ℕ) → k < lefts → get_or p.left_rows k 0 ≡ k
  pub extras : p.extra ≡ extra
  pub distance : p.distance ≡ total

alone_unpaired : (m : List Float) (h w : ℕ) (total : Float) → Unpaired h 0 total (pairs_in m w (rows_alone h) total)
unfolding rows_alone sum_of
alone_unpaired m h w total = record { number = refl; pairs = refl; rows_left = refl; left_at = alone_at h; extras = refl; distance = refl }

none_unpaired : (extra : ℕ) (total : Float) → Unpaired 0 extra total (no_pairs 0 extra total)
unfolding no_pairs
none_unpaired extra total = record { number = refl; pairs = refl; rows_left = refl; left_at = λ k l. absurd (omega arith); extras = refl; distance = refl }

module _ (gi : ℕ) (gt : List Float) (pi : ℕ) (pred : List Float) (limit total : Float) (accepted : pairing_no gi gt pi pred ≡ 0) where
  frame_unpaired : {lefts extra : ℕ} → Unpaired lefts extra total (frame_pairs gi gt pi pred limit total) → Unpaired lefts extra total (pairing_of gi gt pi pred limit total)
  frame_unpaired u = subst (Unpaired _ _ total) (accept gi gt pi pred limit total accepted) u

  -- "No truth: predictions are false positives"
  pub all_extra : gi ≡ 0 → Unpaired 0 pi total (pairing_of gi gt pi pred limit total)
  unfolding frame_pairs
  all_extra e = frame_unpaired (rw (eq-eqb gi 0 e) (none_unpaired pi total))

  module _ (some : 0 < gi) (none : pi ≡ 0) where
    frame_sides : Side gi (length gt) × Side pi (length pred)
    unfolding pairing_no
    frame_sides = sides gi (length gt) pi (length pred) (or_zero (shape_no gi (length gt) pi (length pred)) _ accepted).0

    solved_alone : solution_of (matrix_of Away gt pred gi) gi pi limit ≡ rows_alone gi
    solved_alone =
        let m = matrix_of Away gt pred gi in
        let long : length m ≡ gi * pi = length_matrix Away gt pred gi ∙ ap (λ (k : ℕ). gi * k) (sym frame_sides.1.boxes) in
        solution_alone m gi pi limit some (taken (length m) gi pi some frame_sides.0.few frame_sides.1.few long) none

    -- "No predictions: all truth missed"
    pub all_missed : Unpaired gi 0 total (pairing_of gi gt pi pred limit total)
    unfolding frame_pairs paired_of
    all_missed = frame_unpaired
        (rw (ne_eqb gi 0 (λ (z : gi ≡ 0). omega arith))
        (subst (λ (a : AssignmentResult). Unpaired gi 0 total (pairs_in (matrix_of Away gt pred gi) pi a total)) (sym solved_alone)
        (alone_unpaired (matrix_of Away gt pred gi) gi pi total)))
