-- The pairing of a frame, by the four ways that the code goes. Assumes nothing.
use mathlib.Core.Path.{◌≡◌, refl, sym, ap, ◌∙◌}
use mathlib.Core.List.{List}
use Prim.Native.Nat.{ℕ, zero, suc, ◌*◌, ◌/◌, ◌≤◌}
use native.Mathlib.Omega.{arith}
use borrow.Author.Tests.{eq-eqb, ne_eqb}
use lib.ListN.{length, take}
use lib.Seq.{take_at}
use lib.Ieee.{Float}
use Rattle.floats.specs.Float.{zero64}
use Rattle.matrix.specs.Matrix.{matrix_of, overwrite, matrix_after, distance_matrix_no}
use Rattle.matrix.specs.declared.Measure.TheVariants.{Away}
use Rattle.matrix.proofs.Laws.{length_matrix, or_first}
use Rattle.shape.specs.Shape.{shape_no}
use Rattle.shape.proofs.Sides.{Side, sides, room, or_next}
use Rattle.refusals.specs.Refusals.{number_of}
use Rattle.refusals.specs.declared.Refusal.{Refusal}
use Rattle.refusals.specs.declared.Refusal.TheVariants.{Unsound, TooMany, Misfit, EmptyBox, FullTable, NoRoom, Overflow}
use Rattle.pairing.specs.Pairing.{Pairing, pairing_no, no_pairs, paired_of, frame_pairs, pairing_at, pairing_of}
use Rattle.pairing.proofs.Numbers.{boxes_no}

-- a refusal's number is not 0
pub number_ne : (r : Refusal) → number_of r ≡ 0 → ⊥
number_ne Unsound e = omega arith
number_ne TooMany e = omega arith
number_ne Misfit e = omega arith
number_ne EmptyBox e = omega arith
number_ne FullTable e = omega arith
number_ne NoRoom e = omega arith
number_ne Overflow e = omega arith

refused : (n : ℕ) (p : Pairing) → (n ≡ 0 → ⊥) → no_pairs n 0 zero64 ≡ pairing_at n p
refused zero p x = absurd (x refl)
refused (suc n) p x = refl

module _ (gi : ℕ) (gt : List Float) (pi : ℕ) (pred : List Float) (limit total : Float) where
  refuse : (n : ℕ) → n ≡ pairing_no gi gt pi pred → (n ≡ 0 → ⊥) → no_pairs n 0 zero64 ≡ pairing_of gi gt pi pred limit total
  unfolding pairing_of
  refuse n e x = refused n (frame_pairs gi gt pi pred limit total) x ∙ ap (λ (k : ℕ). pairing_at k (frame_pairs gi gt pi pred limit total)) e

  pub accept : pairing_no gi gt pi pred ≡ 0 → frame_pairs gi gt pi pred limit total ≡ pairing_of gi gt pi pred limit total
  unfolding pairing_of
  accept e = ap (λ (k : ℕ). pairing_at k (frame_pairs gi gt pi pred limit total)) (sym e)

  module _ (shape : ℕ) (s : shape ≡ shape_no gi (length gt) pi (length pred)) where
    pub misshapen : (shape ≡ 0 → ⊥) → no_pairs shape 0 zero64 ≡ pairing_of gi gt pi pred limit total
    unfolding pairing_no
    misshapen x = refuse shape (s ∙ or_first (shape_no gi (length gt) pi (length pred)) _ (λ z. x (s ∙ z))) x

    module _ (fits : shape ≡ 0) where
      pub both_sides : Side gi (length gt) × Side pi (length pred)
      both_sides = sides gi (length gt) pi (length pred) (sym s ∙ fits)

      pub fit : gi * pi ≤ 4096
      fit = room gi pi both_sides.0.few both_sides.1.few

      module _ (run : List Float) (roomy : gi * pi ≤ length run) (boxes : ℕ) (b : boxes ≡ distance_matrix_no gt pred (length run)) where
        number : boxes ≡ pairing_no gi gt pi pred
        unfolding pairing_no
        number = b ∙ (boxes_no gi gt pi pred both_sides.0 both_sides.1 (length run) roomy
            ∙ sym (or_next (shape_no gi (length gt) pi (length pred)) _ (sym s ∙ fits)))

        pub bad_box : (boxes ≡ 0 → ⊥) → no_pairs boxes 0 zero64 ≡ pairing_of gi gt pi pred limit total
        bad_box x = refuse boxes number x

        module _ (good : boxes ≡ 0) where
          pub no_truth : gi ≡ 0 → no_pairs 0 pi total ≡ pairing_of gi gt pi pred limit total
          unfolding frame_pairs
          no_truth e = sym (rw (eq-eqb gi 0 e)) ∙ accept (sym number ∙ good)

          module _ (out : List Float) (o : out ≡ matrix_after Away boxes gt pred run) where
            written : out ≡ overwrite (matrix_of Away gt pred (length gt / 4)) run
            unfolding matrix_after
            written = o ∙ ap (λ (k : ℕ). matrix_after Away k gt pred run) good

            cells_size : length (matrix_of Away gt pred (length gt / 4)) ≡ gi * pi
            cells_size = length_matrix Away gt pred (length gt / 4) ∙ (λ i. sym both_sides.0.boxes i * sym both_sides.1.boxes i)

            part : take (gi * pi) out ≡ matrix_of Away gt pred gi
            part =
                ap (take (gi * pi)) written
                ∙ (take_at (matrix_of Away gt pred (length gt / 4)) _ (gi * pi) cells_size ∙ ap (matrix_of Away gt pred) (sym both_sides.0.boxes))

            pub part_size : length (take (gi * pi) out) ≡ gi * pi
            part_size = ap length (ap (take (gi * pi)) written ∙ take_at (matrix_of Away gt pred (length gt / 4)) _ (gi * pi) cells_size) ∙ cells_size

            pub by_search : (gi ≡ 0 → ⊥) → paired_of (take (gi * pi) out) gi pi limit total ≡ pairing_of gi gt pi pred limit total
            unfolding frame_pairs
            by_search x =
                ap (λ (k : List Float). paired_of k gi pi limit total) part
                ∙ (sym (rw (ne_eqb gi 0 x)) ∙ accept (sym number ∙ good))
