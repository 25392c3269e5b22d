-- The update of lent numbers, by the ways that the code goes. Assumes nothing.
use mathlib.Core.Path.{◌≡◌, refl, sym, ap, ◌∙◌}
use mathlib.Core.Bool.{true, false}
use mathlib.Core.List.{List, [], ◌∷◌}
use Prim.Native.Nat.{ℕ}
use borrow.Author.Tests.{ne_eqb, eqb-true}
use lib.IntN.{ℤ}
use lib.ListN.{length}
use lib.Ieee.{Float}
use Rattle.square.proofs.Truth.{and_left, and_right}
use Rattle.sizes.specs.Sizes.{Long, shape_no, log_and_table, lengths_no}
use Rattle.sizes.proofs.Laws.{long as log_long, refuses}
use Rattle.motmetrics.specs.State.{sound_state}
use Rattle.motmetrics_update.specs.declared.Updated.{Updated as After}
use Rattle.motmetrics_update.specs.Update.{update_of}
use Rattle.motmetrics_update.proofs.Steps as steps
use Rattle.motmetrics_update.proofs.Kept.{refused_keeps}
use Rattle.motmetrics_in_place.specs.declared.Used.{Used}
use Rattle.motmetrics_in_place.specs.declared.Closed.{Closed}
use Rattle.motmetrics_in_place.specs.Updated.{Runs, runs_of, state_of, Within, Updated}
use Rattle.motmetrics_flat.specs.Flat.{used_in, state_in, whole_of, answer_of, runs_with, Checked, counts_of, Answered}

-- ---- the lengths
pub long : (numbers distances table used : ℕ) → whole_of numbers distances table used ≡ true → Long numbers distances table × (used ≡ 2)
unfolding whole_of
long numbers distances table used e =
    (log_long numbers distances table (and_left (log_and_table numbers distances table) _ e), eqb-true used 2 (and_right (log_and_table numbers distances table) _ e))

-- ---- runs and used counts
module _ (x : Runs) (used : Used) where
  -- of the log soundness reads the used count alone
  table_alone : sound_state (state_of (runs_of [] [] x.table) used) ≡ sound_state (state_of x used)
  unfolding sound_state
  table_alone = refl

  pub within : Long (length x.numbers) (length x.distances) (length x.table) → sound_state (state_of (runs_of [] [] x.table) used) ≡ true
      → Within (length x.numbers) (length x.distances) (length x.table) used
  within l e =
      let u = steps.used_within (state_of x used) (sym table_alone ∙ e) in
      record { four_columns = l.four_columns; one_column = l.one_column; three_columns = l.three_columns; few_events = u.0; few_truths = u.1 }

  module _ (frame : ℤ) (objects hypotheses : List ℤ) (distances : List Float) where
    pub unsound : sound_state (state_of (runs_of [] [] x.table) used) ≡ false → Checked x used frame objects hypotheses distances x (record { number = 1; used = used })
    unsound e = record { booked = steps.unsound (state_of x used) frame objects hypotheses distances (sym table_alone ∙ e); written = refl }

    pub sound : sound_state (state_of (runs_of [] [] x.table) used) ≡ true → (y : Runs) (r : Closed) → Updated x used frame objects hypotheses distances y r
        → Checked x used frame objects hypotheses distances y r
    sound e y r u = record { booked = u.booked ∙ steps.sound (state_of x used) frame objects hypotheses distances (sym table_alone ∙ e); written = u.written }

-- ---- lent numbers
module _ (x : Runs) (used : List ℕ) (frame : ℤ) (objects hypotheses : List ℤ) (distances : List Float) where
  pub no_state : whole_of (length x.numbers) (length x.distances) (length x.table) (length used) ≡ false
      → Answered x used frame objects hypotheses distances x used (lengths_no (shape_no (length objects) (length hypotheses) (length distances)))
  unfolding answer_of
  no_state e =
      let z = refuses (shape_no (length objects) (length hypotheses) (length distances)) in
      record { number_is = sym (rw e refl); state_is = sym (rw e refl); runs_are = sym (rw z refl); used_are = sym (rw z refl) }

  module _ (w : whole_of (length x.numbers) (length x.distances) (length x.table) (length used) ≡ true) (y : Runs) (r : Closed)
      (c : Checked x (used_in used) frame objects hypotheses distances y r) where
    answer_is : update_of (state_in x used) frame objects hypotheses distances ≡ answer_of x used frame objects hypotheses distances
    unfolding answer_of
    answer_is = sym (rw w refl)

    there : ◌≡◌ {A = After} (record { number = r.number; state = state_of y r.used }) (answer_of x used frame objects hypotheses distances)
    there = c.booked ∙ answer_is

    pub kept : (r.number ≡ 0 → ⊥) → Answered x used frame objects hypotheses distances y used r.number
    kept n =
        let z = ne_eqb r.number 0 n in
        let same : y ≡ x = c.written ∙ rw z refl in
        record {
          number_is = ap (λ (u : After). u.number) there;
          state_is =
              ap (λ (v : Runs). state_in v used) same
              ∙ (sym (refused_keeps (state_in x used) frame objects hypotheses distances (λ q. n (ap (λ (u : After). u.number) c.booked ∙ q))) ∙ ap (λ (u : After). u.state) answer_is);
          runs_are = c.written;
          used_are = sym (rw z refl);
        }

    pub written : r.number ≡ 0 → (used' : List ℕ) → used' ≡ r.used.events ∷ r.used.truths ∷ [] → Answered x used frame objects hypotheses distances y used' 0
    written z used' e =
        record {
          number_is = sym z ∙ ap (λ (u : After). u.number) there;
          state_is = ap (state_in y) e ∙ ap (λ (u : After). u.state) there;
          runs_are = c.written ∙ ap (λ (n : ℕ). runs_with n x (used_in used) frame objects hypotheses distances) z;
          used_are = e ∙ ap (λ (u : After). counts_of u.state) there;
        }
