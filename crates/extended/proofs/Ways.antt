-- The update, by the ways that the code goes. Assumes nothing.
use mathlib.Core.Path.{◌≡◌, refl, sym, ap, ◌∙◌, subst}
use mathlib.Core.Bool.{Bool, true, false}
use mathlib.Core.List.{List}
use Prim.Native.Nat.{◌≤◌}
use borrow.Author.Tests.{eq-eqb, ne_eqb, eqb-true, eqb-false, leb-true}
use lib.Dec.{eqb}
use lib.IntN.{ℤ}
use lib.ListN.{length}
use lib.Ieee.{Float}
use Rattle.square.proofs.Truth.{and_left, and_right}
use Rattle.slots.specs.Slots.{sound_of}
use Rattle.rows.specs.declared.ExtendedMOTAccumulator.{ExtendedMOTAccumulator}
use Rattle.frame.specs.declared.Booked.{Booked}
use Rattle.frame.specs.Frame.{sound_state, totals_sound}
use native.Mathlib.Omega.{arith}
use Rattle.std.specs.Prelude.{Err}
use Rattle.refusals.specs.declared.Refusal.{Refusal}
use Rattle.refusals.specs.declared.Refusal.TheVariants.{Unsound, TooMany, Misfit, EmptyBox, FullTable, NoRoom, Overflow}
use Rattle.refusals.specs.Refusals.{number_of}
use Rattle.pairing.specs.Pairing.{Pairing, no_pairs, answered}
use Rattle.extended.specs.Update.{refused_at, Lie, booked_with, pairing_in, paired_after, frame_after, update_of}
use Rattle.extended.proofs.Lying.{pairing_lies}

-- a sound state's used count is that of its table
table_used : (s : ExtendedMOTAccumulator) → sound_of s.slots s.used ≡ true → s.used ≤ 256
unfolding sound_of
table_used s e = leb-true _ _ (and_left _ _ e)

pub sound_used : (s : ExtendedMOTAccumulator) → sound_state s ≡ true → s.used ≤ 256
unfolding sound_state
sound_used s e = table_used s (and_right (totals_sound s) _ e)

-- no reason has the number 0
some_number : (r : Refusal) → number_of r ≡ 0 → ⊥
some_number Unsound h = omega arith
some_number TooMany h = omega arith
some_number Misfit h = omega arith
some_number EmptyBox h = omega arith
some_number FullTable h = omega arith
some_number NoRoom h = omega arith
some_number Overflow h = omega arith

-- the pairing that a refusal stands for has its number, which is not 0
pub number_there : (r : Refusal) → (answered (Err r)).number ≡ number_of r
unfolding no_pairs
number_there r = refl

pub not_zero : (r : Refusal) → (answered (Err r)).number ≡ 0 → ⊥
not_zero r h = some_number r (sym (number_there r) ∙ h)

module _ (s : ExtendedMOTAccumulator) (gt_ids : List ℤ) (gt : List Float) (pred_ids : List ℤ) (pred : List Float) (threshold : Float) where
  module _ (p : Pairing) (is : p ≡ pairing_in s gt_ids gt pred_ids pred threshold) where
    by_pairing : paired_after s gt_ids pred_ids p ≡ frame_after s gt_ids gt pred_ids pred threshold
    unfolding frame_after
    by_pairing = ap (paired_after s gt_ids pred_ids) is

    pub unpaired : (p.number ≡ 0 → ⊥) → refused_at p.number s ≡ frame_after s gt_ids gt pred_ids pred threshold
    unpaired x = sym (rw (ne_eqb p.number 0 x)) ∙ by_pairing

    pub booked : p.number ≡ 0 → booked_with s gt_ids pred_ids p ≡ frame_after s gt_ids gt pred_ids pred threshold
    booked e = sym (rw (eq-eqb p.number 0 e)) ∙ by_pairing

    pub lies : p.number ≡ 0 → Lie (length gt_ids) (length pred_ids) p
    lies e = subst (Lie (length gt_ids) (length pred_ids)) (sym is) (pairing_lies _ _ _ _ _ _ (sym (ap (λ (q : Pairing). q.number) is) ∙ e))

  pub unsound : sound_state s ≡ false → refused_at 1 s ≡ update_of s gt_ids gt pred_ids pred threshold
  unfolding update_of
  unsound e = sym (rw e)

  pub taken : sound_state s ≡ true → frame_after s gt_ids gt pred_ids pred threshold ≡ update_of s gt_ids gt pred_ids pred threshold
  unfolding update_of
  taken e = sym (rw e)

  -- ---- what holds of each way holds of the whole
  abbrev pairing : Pairing
  pairing = pairing_in s gt_ids gt pred_ids pred threshold

  module _ (P : Booked → Type 0) where
    by_number : (t : Bool) → eqb pairing.number 0 ≡ t → ((pairing.number ≡ 0 → ⊥) → P (refused_at pairing.number s))
        → (pairing.number ≡ 0 → P (booked_with s gt_ids pred_ids pairing)) → P (frame_after s gt_ids gt pred_ids pred threshold)
    by_number true q not_paired frame = let z = eqb-true pairing.number 0 q in subst P (booked pairing refl z) (frame z)
    by_number false q not_paired frame = let x = eqb-false pairing.number 0 q in subst P (unpaired pairing refl x) (not_paired x)

    pub after_ways : ((pairing.number ≡ 0 → ⊥) → P (refused_at pairing.number s))
        → (pairing.number ≡ 0 → P (booked_with s gt_ids pred_ids pairing)) → P (frame_after s gt_ids gt pred_ids pred threshold)
    after_ways = by_number (eqb pairing.number 0) refl

    by_soundness : (t : Bool) → sound_state s ≡ t → (sound_state s ≡ false → P (refused_at 1 s))
        → (sound_state s ≡ true → P (frame_after s gt_ids gt pred_ids pred threshold)) → P (update_of s gt_ids gt pred_ids pred threshold)
    by_soundness true e not_sound after = subst P (taken e) (after e)
    by_soundness false e not_sound after = subst P (unsound e) (not_sound e)

    -- 1; 2, 3 or 4; or a frame that is booked
    pub update_ways : (sound_state s ≡ false → P (refused_at 1 s)) → (sound_state s ≡ true → (pairing.number ≡ 0 → ⊥) → P (refused_at pairing.number s))
        → (sound_state s ≡ true → pairing.number ≡ 0 → P (booked_with s gt_ids pred_ids pairing)) → P (update_of s gt_ids gt pred_ids pred threshold)
    update_ways not_sound not_paired frame = by_soundness (sound_state s) refl not_sound (λ e. after_ways (not_paired e) (frame e))
