-- The number of every update is the lowest that document 01's table gives. Assumes nothing.
use mathlib.Core.Path.{◌≡◌, refl, sym, ◌∙◌}
use mathlib.Core.Bool.{Bool, true, false, cond}
use mathlib.Core.List.{List}
use Prim.Native.Nat.{ℕ, zero, suc}
use lib.Dec.{eqb}
use lib.IntN.{ℤ}
use lib.ListN.{length}
use lib.Ieee.{Float}
use mir.Val.{Val}
use denote.Laws.{Is}
use Rattle.matrix.specs.Matrix.{matrix_of}
use Rattle.matrix.specs.declared.Measure.TheVariants.{Away}
use Rattle.matrix.proofs.Laws.{or_first}
use Rattle.rows.specs.declared.ExtendedMOTAccumulator.{ExtendedMOTAccumulator}
use Rattle.rows.specs.Rows.{new_state}
use Rattle.rows.specs.contracts.ExtendedMOTAccumulator as states
use Rattle.frame.specs.declared.Booked.{Booked}
use Rattle.frame.specs.Frame.{sound_state}
use Rattle.frame.specs.Held.{Held}
use Rattle.frame.proofs.Finals as finals
use Rattle.frame.proofs.Kept.{held_fits}
use Rattle.frame.proofs.Machine.{held}
use Rattle.pairing.specs.Pairing.{Pairing}
use Rattle.pairing.specs.Pairing.{pairing_no, no_pairs, paired_of, frame_pairs, pairing_at, pairing_of}
use Rattle.shape.proofs.Sides.{or_next}
use Rattle.extended.specs.Update.{rows_in, pairing_in, booked_with, update_of}
use Rattle.extended.specs.Number.{final_no_in, update_no}
use Rattle.extended.specs.Play.{Frame, update_by, played_of}
use Rattle.extended.proofs.Ways.{sound_used, update_ways}
use Rattle.extended.proofs.Kept.{new_played_held}

-- ---- the pairing's number is 2, 3 or 4 by the table, else 0
either_zero : (t : Bool) (a b : Pairing) → a.number ≡ 0 → b.number ≡ 0 → (cond t a b).number ≡ 0
either_zero true a b p q = p
either_zero false a b p q = q

module _ (gi : ℕ) (gt : List Float) (pi : ℕ) (pred : List Float) (limit total : Float) where
  pairs_zero : (frame_pairs gi gt pi pred limit total).number ≡ 0
  unfolding frame_pairs no_pairs paired_of
  pairs_zero = either_zero (eqb gi 0) (no_pairs 0 pi total) (paired_of (matrix_of Away gt pred gi) gi pi limit total) refl refl

  at_number : (n : ℕ) (p : Pairing) → p.number ≡ 0 → (pairing_at n p).number ≡ n
  unfolding no_pairs
  at_number zero p e = e
  at_number (suc n) p e = refl

  pub pairing_number : (pairing_of gi gt pi pred limit total).number ≡ pairing_no gi gt pi pred
  unfolding pairing_of
  pairing_number = at_number (pairing_no gi gt pi pred) (frame_pairs gi gt pi pred limit total) pairs_zero

-- ---- the update's
module _ (s : ExtendedMOTAccumulator) (gt_ids : List ℤ) (gt : List Float) (pred_ids : List ℤ) (pred : List Float) (threshold : Float) (h : Held s) where
  abbrev p : Pairing
  p = pairing_in s gt_ids gt pred_ids pred threshold

  abbrev no : ℕ
  no = pairing_no (length gt_ids) gt (length pred_ids) pred

  number : p.number ≡ no
  number = pairing_number (length gt_ids) gt (length pred_ids) pred threshold s.total_distance

  -- 5 AND 7 ARE THOSE OF THE FINAL VALUES
  pub booked_number : sound_state s ≡ true → (booked_with s gt_ids pred_ids p).number ≡ final_no_in s gt_ids pred_ids p
  booked_number e =
      let u = sound_used s e in
      finals.number_is s (rows_in gt_ids pred_ids p) p.pairs p.lefts p.extra (length gt_ids) p.distance h.long u (held_fits s u h)

  abbrev Says : Booked → Type 0
  Says b = b.number ≡ update_no s gt_ids gt pred_ids pred threshold

  not_sound : sound_state s ≡ false → 1 ≡ update_no s gt_ids gt pred_ids pred threshold
  unfolding update_no
  not_sound e = rw e

  not_paired : sound_state s ≡ true → (p.number ≡ 0 → ⊥) → p.number ≡ update_no s gt_ids gt pred_ids pred threshold
  unfolding update_no
  not_paired e x = rw e (number ∙ or_first no (final_no_in s gt_ids pred_ids p) (λ z. x (number ∙ z)))

  framed : sound_state s ≡ true → p.number ≡ 0 → Says (booked_with s gt_ids pred_ids p)
  unfolding update_no
  framed e z = rw e (booked_number e ∙ sym (or_next no (final_no_in s gt_ids pred_ids p) (sym number ∙ z)))

  -- THE NUMBER OF AN UPDATE
  pub number_is : (update_of s gt_ids gt pred_ids pred threshold).number ≡ update_no s gt_ids gt pred_ids pred threshold
  number_is = update_ways s gt_ids gt pred_ids pred threshold Says not_sound not_paired framed

-- of any state that machine values stand for
pub any_number : (s : ExtendedMOTAccumulator) (vs : List Val) → Is states.the_row s vs
    → (gt_ids : List ℤ) (gt : List Float) (pred_ids : List ℤ) (pred : List Float) (threshold : Float)
    → (update_of s gt_ids gt pred_ids pred threshold).number ≡ update_no s gt_ids gt pred_ids pred threshold
any_number s vs h gt_ids gt pred_ids pred threshold = number_is s gt_ids gt pred_ids pred threshold (held s vs h)

-- after any sequence of updates of a new state
pub played_number : (fs : List Frame) (f : Frame)
    → let s = played_of new_state fs in (update_by s f).number ≡ update_no s f.gt_ids f.gt_boxes f.pred_ids f.pred_boxes f.threshold
played_number fs f = number_is (played_of new_state fs) f.gt_ids f.gt_boxes f.pred_ids f.pred_boxes f.threshold (new_played_held fs)
