-- Where the lists of a frame's pairing lie: in the two runs of ids. Assumes nothing.
use mathlib.Core.Path.{◌≡◌, refl, sym, ap, ◌∙◌, subst}
use mathlib.Core.Logic.{⊎_elim}
use mathlib.Core.List.{List}
use Prim.Native.Nat.{ℕ, zero, suc, ◌*◌, ◌/◌, ◌<◌, ◌≤◌}
use native.Mathlib.Nat.{not-suc-le-zero}
use native.Mathlib.Omega.{arith}
use borrow.Author.Tests.{eq-eqb, ne_eqb}
use lib.ListN.{length}
use lib.Ieee.{Float}
use Rattle.square.proofs.Index.{eq-or-not}
use Rattle.matrix.specs.Matrix.{matrix_of}
use Rattle.matrix.specs.declared.Measure.TheVariants.{Away}
use Rattle.matrix.proofs.Laws.{length_matrix, or_zero}
use Rattle.solver.specs.Solution.{solution_of}
use Rattle.solver.proofs.Lists.{Placed, solution_placed}
use Rattle.pairing.specs.Pairing.{Pairing}
use Rattle.shape.specs.Shape.{shape_no}
use Rattle.shape.proofs.Sides.{sides}
use Rattle.pairing.specs.Pairing.{pairing_no, no_pairs, paired_of, frame_pairs, pairing_at, pairing_of}
use Rattle.optimize.proofs.Number.{taken}
use Rattle.pairing.proofs.Ways.{accept}
use Rattle.extended.specs.Update.{Lie}

suc_ne : (n : ℕ) → suc n ≡ 0 → ⊥
suc_ne n e = omega arith

none_lie : (gi pi : ℕ) (total : Float) → gi ≤ 64 → pi ≤ 64 → Lie gi pi (no_pairs 0 pi total)
unfolding no_pairs
none_lie gi pi total g p = record {
  lists = record { few = omega arith; row_in = λ k l. absurd (not-suc-le-zero l); col_in = λ k l. absurd (not-suc-le-zero l); left_in = λ k l. absurd (not-suc-le-zero l) };
  few_truths = g;
  few_extra = p;
}

solved_lie : (m : List Float) (gi pi : ℕ) (limit total : Float) → gi ≤ 64 → pi ≤ 64 → Placed gi pi (solution_of m gi pi limit) → Lie gi pi (paired_of m gi pi limit total)
unfolding paired_of
solved_lie m gi pi limit total g p l =
    let r = l.row_count in
    let x = l.extra_few in
    record {
      lists = record { few = omega arith; row_in = l.row_in; col_in = l.col_in; left_in = l.left_in };
      few_truths = g;
      few_extra = omega arith;
    }

module _ (gi : ℕ) (gt : List Float) (pi : ℕ) (pred : List Float) (limit total : Float) where
  number_zero : (n : ℕ) (p : Pairing) → (pairing_at n p).number ≡ 0 → n ≡ 0
  unfolding no_pairs
  number_zero zero p e = refl
  number_zero (suc n) p e = absurd (suc_ne n e)

  module _ (g : gi ≤ 64) (p : pi ≤ 64) (boxes : pi ≡ length pred / 4) where
    long : length (matrix_of Away gt pred gi) ≡ gi * pi
    long = length_matrix Away gt pred gi ∙ ap (λ (k : ℕ). gi * k) (sym boxes)

    no_truth_lies : gi ≡ 0 → Lie gi pi (frame_pairs gi gt pi pred limit total)
    unfolding frame_pairs
    no_truth_lies e = rw (eq-eqb gi 0 e) (none_lie gi pi total g p)

    search_lies : (gi ≡ 0 → ⊥) → Lie gi pi (frame_pairs gi gt pi pred limit total)
    unfolding frame_pairs
    search_lies x =
        let some : 0 < gi = omega arith in
        rw (ne_eqb gi 0 x)
        (solved_lie (matrix_of Away gt pred gi) gi pi limit total g p
        (solution_placed (matrix_of Away gt pred gi) gi pi limit some (taken (length (matrix_of Away gt pred gi)) gi pi some g p long)))

    frame_lies : Lie gi pi (frame_pairs gi gt pi pred limit total)
    frame_lies = ⊎_elim (λ (e : gi ≡ 0). no_truth_lies e) (λ (x : gi ≡ 0 → ⊥). search_lies x) (eq-or-not gi 0)

  -- EVERY PAIRING THAT IS NOT REFUSED lies in the runs
  pub pairing_lies : (pairing_of gi gt pi pred limit total).number ≡ 0 → Lie gi pi (pairing_of gi gt pi pred limit total)
  unfolding pairing_of pairing_no
  pairing_lies e =
      let z : pairing_no gi gt pi pred ≡ 0 = number_zero (pairing_no gi gt pi pred) (frame_pairs gi gt pi pred limit total) e in
      let s = sides gi (length gt) pi (length pred) (or_zero (shape_no gi (length gt) pi (length pred)) _ z).0 in
      subst (Lie gi pi) (accept gi gt pi pred limit total z) (frame_lies s.0.few s.1.few s.1.boxes)
