-- The update of lent numbers, by the ways that the code goes. Assumes nothing.
use mathlib.Core.Path.{◌≡◌, refl, sym, ap, ◌∙◌}
use mathlib.Core.Bool.{true, false}
use mathlib.Core.List.{List, [], ◌∷◌}
use Prim.Native.Nat.{ℕ}
use native.Mathlib.Omega.{arith}
use borrow.Author.Tests.{ne_eqb}
use lib.Dec.{eqb}
use lib.IntN.{ℤ}
use lib.Signed.{non_neg}
use lib.ListN.{length}
use lib.Ieee.{Float}
use Rattle.sizes.specs.Sizes.{lengths_no}
use Rattle.sizes.proofs.Laws.{refuses}
use Rattle.shape.specs.Shape.{shape_no}
use Rattle.frame.specs.declared.Booked.{Booked}
use Rattle.totals.specs.declared.Totals.{Totals}
use Rattle.frame.specs.Frame.{sound_state, totals_of}
use Rattle.extended.specs.Update.{refused_at, pairing_in, update_of}
use Rattle.extended.proofs.Ways as extended
use Rattle.extended.proofs.Updates.{refused_keeps}
use Rattle.inplace.specs.declared.Closed.{Closed}
use Rattle.inplace.specs.InPlace.{state_of}
use Rattle.extended_in_place.specs.Updated.{Updated}
use Rattle.extended_in_place.proofs.Kept.{used_kept}
use Rattle.extended_flat.specs.Flat.{used_in, totals_in, counters_of, state_in, whole_of, answer_of, run_with, Checked, Answered}

-- ---- a table and its totals
module _ (run : List ℤ) (totals : Totals) (gt_ids : List ℤ) (gt : List Float) (pred_ids : List ℤ) (pred : List Float) (threshold : Float) where
  pub unsound : sound_state (state_of run totals) ≡ false → Checked run totals gt_ids gt pred_ids pred threshold run (record { number = 1; totals = totals })
  unsound e =
      record { booked = extended.unsound (state_of run totals) gt_ids gt pred_ids pred threshold e; table = refl; within = λ (z : ◌≡◌ {A = ℕ} 1 0). absurd (omega arith) }

  pub sound : sound_state (state_of run totals) ≡ true → (after : List ℤ) (r : Closed) → Updated run totals gt_ids gt pred_ids pred threshold after r
      → Checked run totals gt_ids gt pred_ids pred threshold after r
  sound e after r u =
      record {
        booked = u.booked ∙ extended.taken (state_of run totals) gt_ids gt pred_ids pred threshold e;
        table = u.table;
        within = λ _. used_kept run totals gt_ids gt pred_ids pred threshold (extended.sound_used (state_of run totals) e) after r u;
      }

-- ---- lent numbers
module _ (run counters : List ℤ) (distance : List Float) (gt_ids : List ℤ) (gt : List Float) (pred_ids : List ℤ) (pred : List Float) (threshold : Float) where
  refused : (number : ℕ) → eqb number 0 ≡ false → answer_of run counters distance gt_ids gt pred_ids pred threshold ≡ refused_at number (state_in run counters distance)
      → Answered run counters distance gt_ids gt pred_ids pred threshold run counters distance number
  refused number x q =
      record {
        number_is = sym (ap (λ (b : Booked). b.number) q);
        state_is = sym (ap (λ (b : Booked). b.state) q);
        run_is = sym (rw x);
        counters_are = sym (rw x);
        distance_is = sym (rw x);
      }

  pub no_state : whole_of (length run) (length counters) (length distance) ≡ false
      → Answered run counters distance gt_ids gt pred_ids pred threshold run counters distance (lengths_no (shape_no (length gt_ids) (length gt) (length pred_ids) (length pred)))
  unfolding answer_of
  no_state e = refused _ (refuses (shape_no (length gt_ids) (length gt) (length pred_ids) (length pred))) (rw e)

  module _ (w : whole_of (length run) (length counters) (length distance) ≡ true) where
    pub negative : non_neg (used_in counters) ≡ false → Answered run counters distance gt_ids gt pred_ids pred threshold run counters distance 1
    unfolding answer_of
    negative e = refused 1 refl (rw (w, e))

    module _ (e : non_neg (used_in counters) ≡ true) where
      abbrev next : Booked
      next = update_of (state_in run counters distance) gt_ids gt pred_ids pred threshold

      answer_is : next ≡ answer_of run counters distance gt_ids gt pred_ids pred threshold
      unfolding answer_of
      answer_is = sym (rw (w, e))

      module _ (t : Totals) (is : t ≡ totals_in counters distance) (after : List ℤ) (r : Closed) (c : Checked run t gt_ids gt pred_ids pred threshold after r) where
        there : ◌≡◌ {A = Booked} (record { number = r.number; state = state_of after r.totals }) (answer_of run counters distance gt_ids gt pred_ids pred threshold)
        there = c.booked ∙ (ap (λ (u : Totals). update_of (state_of run u) gt_ids gt pred_ids pred threshold) is ∙ answer_is)

        run_there : after ≡ run_with r.number run (totals_in counters distance) gt_ids pred_ids (pairing_in (state_in run counters distance) gt_ids gt pred_ids pred threshold)
        run_there = c.table ∙ ap (λ (u : Totals). run_with r.number run u gt_ids pred_ids (pairing_in (state_of run u) gt_ids gt pred_ids pred threshold)) is

        pub kept : (r.number ≡ 0 → ⊥) → Answered run counters distance gt_ids gt pred_ids pred threshold after counters distance r.number
        kept x =
            let z = ne_eqb r.number 0 x in
            let same : after ≡ run = run_there ∙ rw z in
            let n = ap (λ (b : Booked). b.number) (there ∙ sym answer_is) in
            record {
              number_is = ap (λ (b : Booked). b.number) there;
              state_is =
                  ap (λ (l : List ℤ). state_in l counters distance) same
                  ∙ (sym (refused_keeps (state_in run counters distance) gt_ids gt pred_ids pred threshold (λ q. x (n ∙ q))) ∙ ap (λ (b : Booked). b.state) answer_is);
              run_is = run_there;
              counters_are = sym (rw z);
              distance_is = sym (rw z);
            }

        pub written : r.number ≡ 0 → (counters' : List ℤ) (distance' : List Float) → counters' ≡ counters_of r.totals → distance' ≡ r.totals.total_distance ∷ []
            → Answered run counters distance gt_ids gt pred_ids pred threshold after counters' distance' 0
        written z counters' distance' a b =
            let s = ap (λ (k : Booked). k.state) there in
            record {
              number_is = sym z ∙ ap (λ (k : Booked). k.number) there;
              state_is = (λ i. state_in after (a i) (b i)) ∙ s;
              run_is = run_there ∙ ap (λ (n : ℕ). run_with n run (totals_in counters distance) gt_ids pred_ids (pairing_in (state_in run counters distance) gt_ids gt pred_ids pred threshold)) z;
              counters_are = a ∙ ap (λ (k : Booked). counters_of (totals_of k.state)) there;
              distance_is = b ∙ ap (λ (k : Booked). k.state.total_distance ∷ []) there;
            }
