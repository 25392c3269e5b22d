-- The steps of the update, by the number that they answer. Those of the booking are passed on. Assumes nothing.
use mathlib.Core.Path.{◌≡◌, refl, sym, ◌∙◌, subst}
use mathlib.Core.Bool.{true}
use mathlib.Core.List.{List}
use Prim.Native.Nat.{ℕ, ◌*◌, ◌≤◌, ◌/◌}
use native.Mathlib.Omega.{arith}
use borrow.Author.Tests.{le-ltb, eq-eqb, ne_eqb}
use lib.IntN.{ℤ}
use lib.ListN.{length}
use lib.Ieee.{Float}
use Rattle.refusals.specs.declared.Refusal.{Refusal}
use Rattle.refusals.specs.declared.Refusal.TheVariants.{Unsound, TooMany, Misfit, EmptyBox, FullTable, NoRoom, Overflow}
use Rattle.refusals.specs.Refusals.{number_of}
use Rattle.matrix.specs.Matrix.{matrix_of, room_no, iou_matrix_no}
use Rattle.matrix.specs.Matrix as matrices
use Rattle.matrix.specs.declared.Measure.TheVariants.{Shared}
use Rattle.shape.specs.Shape.{shape_no}
use Rattle.shape.proofs.Sides.{Side, sides}
use Rattle.metrics.specs.declared.MOTAccumulator.{MOTAccumulator}
use Rattle.metrics.specs.State.{sound_state}
use Rattle.metrics.proofs.Sound.{sound_reads}
pub use Rattle.metrics_booking.proofs.Steps.{truths_full, hypotheses_full, log_full, all_booked}
use Rattle.metrics_update.specs.Update.{Within, refused_at, paired_after, frame_after}

-- no reason has the number 0
pub some_number : (r : Refusal) → number_of r ≡ 0 → ⊥
some_number Unsound h = omega arith
some_number TooMany h = omega arith
some_number Misfit h = omega arith
some_number EmptyBox h = omega arith
some_number FullTable h = omega arith
some_number NoRoom h = omega arith
some_number Overflow h = omega arith

-- ---- a frame
module _ (s : MOTAccumulator) (frame : ℤ) (truths hypotheses : List ℤ) (gt hyp : List Float) (threshold : Float) (number : ℕ)
    (e : number ≡ shape_no (length truths) (length gt) (length hypotheses) (length hyp)) where
  pub misshapen : (number ≡ 0 → ⊥) → refused_at number s ≡ frame_after s frame truths hypotheses gt hyp threshold
  unfolding frame_after
  misshapen x = rw (← e, ne_eqb number 0 x) refl

  module _ (fits : number ≡ 0) where
    pub both_sides : Side (length truths) (length gt) × Side (length hypotheses) (length hyp)
    both_sides = sides (length truths) (length gt) (length hypotheses) (length hyp) (sym e ∙ fits)

    abbrev pub shares : List Float
    shares = matrix_of Shared gt hyp (length truths)

    -- the matrix is not refused where there is room
    pub shares_no : (places : ℕ) → length truths * length hypotheses ≤ places → iou_matrix_no gt hyp places ≡ 0
    unfolding iou_matrix_no matrices.shape_no room_no
    shares_no places h =
        let a = both_sides.0 in
        let b = both_sides.1 in
        let gf = a.few in
        let gb = a.boxes in
        let hf = b.few in
        let hb = b.boxes in
        let gs : length gt / 4 ≤ 64 = omega arith in
        let hs : length hyp / 4 ≤ 64 = omega arith in
        simp (le-ltb _ _ gs, le-ltb _ _ hs, eq-eqb _ _ a.whole, eq-eqb _ _ b.whole, le-ltb _ _ (subst (λ (n : ℕ). n ≤ places) (λ j. gb j * hb j) h))

    pub framed : paired_after s frame truths hypotheses shares threshold ≡ frame_after s frame truths hypotheses gt hyp threshold
    unfolding frame_after
    framed = rw (← e, eq-eqb number 0 fits) refl

-- ---- any state
pub within : (s : MOTAccumulator) → sound_state s ≡ true → Within s
within s e = let h = sound_reads s e in record { log = h.log; truths = h.truths; hypotheses = h.hypotheses }
