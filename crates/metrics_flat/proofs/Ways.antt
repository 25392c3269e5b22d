-- The update of lent numbers, by the ways that the code goes. Assumes nothing.
use mathlib.Core.Path.{◌≡◌, refl, sym, ap, ◌∙◌}
use mathlib.Core.Bool.{true, false}
use mathlib.Core.List.{List, [], ◌∷◌}
use mathlib.Core.Logic.{⊎_elim}
use Prim.Native.Nat.{ℕ}
use borrow.Author.Tests.{ne_eqb, eqb-true}
use lib.Dec.{eqb}
use lib.IntN.{ℤ}
use lib.ListN.{length}
use lib.Ieee.{Float}
use Rattle.square.proofs.Truth.{dec, and_left, and_right}
use Rattle.sizes.specs.Sizes.{Long, log_and_table, lengths_no}
use Rattle.sizes.proofs.Laws.{long as log_long, refuses}
use Rattle.greedy.specs.declared.Pairing.{Pairing}
use Rattle.matrix.specs.Matrix.{matrix_of}
use Rattle.matrix.specs.declared.Measure.TheVariants.{Shared}
use Rattle.shape.specs.Shape.{shape_no}
use Rattle.greedy_pairs.specs.Pairs.{by_share}
use Rattle.metrics.specs.declared.MOTAccumulator.{MOTAccumulator}
use Rattle.metrics.specs.State.{sound_state}
use Rattle.metrics_booking.specs.declared.Updated.{Updated as After}
use Rattle.metrics_update.specs.Update.{stored_of, book_of, frame_after, update_of}
use Rattle.metrics_update.proofs.Steps as steps
use Rattle.metrics_in_place.specs.declared.Used.{Used}
use Rattle.metrics_in_place.specs.declared.Closed.{Closed}
use Rattle.metrics_in_place.specs.InPlace.{Runs, runs_of, state_of, Within, Updated}
use Rattle.metrics_flat.specs.Flat.{used_in, state_in, whole_of, answer_of, runs_with, Checked, counts_of, Answered}

-- ---- the lengths
pub long : (numbers distances table hypotheses used : ℕ) → whole_of numbers distances table hypotheses used ≡ true → Long numbers distances table × (hypotheses ≡ 1024) × (used ≡ 3)
unfolding whole_of
long numbers distances table hypotheses used e =
    let h = and_right (log_and_table numbers distances table) _ e in
    (log_long numbers distances table (and_left (log_and_table numbers distances table) _ e), eqb-true hypotheses 1024 (and_left (eqb hypotheses 1024) _ h), eqb-true used 3 (and_right (eqb hypotheses 1024) _ h))

-- ---- beside a refusal the state is the one that came
abbrev Keeps : MOTAccumulator → After → Type 0
Keeps s u = (u.number ≡ 0 → ⊥) → u.state ≡ s

module _ (s : MOTAccumulator) (frame : ℤ) (truths hypotheses : List ℤ) (gt hyp : List Float) (threshold : Float) where
  book_keeps : (distances : List Float) (p : Pairing) → Keeps s (book_of s frame truths hypotheses distances p)
  unfolding book_of
  book_keeps distances p x = rw (ne_eqb _ 0 x) refl

  frame_keeps : Keeps s (frame_after s frame truths hypotheses gt hyp threshold)
  unfolding frame_after
  frame_keeps =
      let number = shape_no (length truths) (length gt) (length hypotheses) (length hyp) in
      let shares = matrix_of Shared gt hyp (length truths) in
      ⊎_elim
      (λ (e : eqb number 0 ≡ true). rw e (book_keeps (stored_of shares) (by_share shares threshold (length hypotheses))))
      (λ (e : eqb number 0 ≡ false). rw e (λ x. refl))
      (dec (eqb number 0))

  pub refused_keeps : Keeps s (update_of s frame truths hypotheses gt hyp threshold)
  unfolding update_of
  refused_keeps = ⊎_elim (λ (e : sound_state s ≡ true). rw e frame_keeps) (λ (e : sound_state s ≡ false). rw e (λ x. refl)) (dec (sound_state s))

-- ---- runs and used counts
module _ (x : Runs) (used : Used) where
  -- of the log soundness reads the used count alone
  table_alone : sound_state (state_of (runs_of [] [] x.table x.hypotheses) used) ≡ sound_state (state_of x used)
  unfolding sound_state
  table_alone = refl

  pub within : Long (length x.numbers) (length x.distances) (length x.table) × (length x.hypotheses ≡ 1024) → sound_state (state_of (runs_of [] [] x.table x.hypotheses) used) ≡ true → Within x used
  within l e =
      let u = steps.within (state_of x used) (sym table_alone ∙ e) in
      record {
        numbers = l.0.four_columns;
        distances = l.0.one_column;
        table = l.0.three_columns;
        hypotheses = l.1;
        few_events = u.log;
        few_truths = u.truths;
        few_hypotheses = u.hypotheses;
      }

  module _ (frame : ℤ) (truths hypotheses : List ℤ) (gt hyp : List Float) (threshold : Float) where
    pub unsound : sound_state (state_of (runs_of [] [] x.table x.hypotheses) used) ≡ false → Checked x used frame truths hypotheses gt hyp threshold x (record { number = 1; used = used })
    unfolding update_of
    unsound e = record { booked = sym (rw (sym table_alone ∙ e) refl); written = refl }

    pub sound : sound_state (state_of (runs_of [] [] x.table x.hypotheses) used) ≡ true → (y : Runs) (r : Closed) → Updated x used frame truths hypotheses gt hyp threshold y r
        → Checked x used frame truths hypotheses gt hyp threshold y r
    unfolding update_of
    sound e y r u = record { booked = u.state ∙ sym (rw (sym table_alone ∙ e) refl); written = u.runs }

-- ---- lent numbers
module _ (x : Runs) (used : List ℕ) (frame : ℤ) (truths hypotheses : List ℤ) (gt hyp : List Float) (threshold : Float) where
  pub no_state : whole_of (length x.numbers) (length x.distances) (length x.table) (length x.hypotheses) (length used) ≡ false
      → Answered x used frame truths hypotheses gt hyp threshold x used (lengths_no (shape_no (length truths) (length gt) (length hypotheses) (length hyp)))
  unfolding answer_of
  no_state e =
      let z = refuses (shape_no (length truths) (length gt) (length hypotheses) (length hyp)) in
      record { number_is = sym (rw e refl); state_is = sym (rw e refl); runs_are = sym (rw z refl); used_are = sym (rw z refl) }

  module _ (w : whole_of (length x.numbers) (length x.distances) (length x.table) (length x.hypotheses) (length used) ≡ true) (y : Runs) (r : Closed)
      (c : Checked x (used_in used) frame truths hypotheses gt hyp threshold y r) where
    answer_is : update_of (state_in x used) frame truths hypotheses gt hyp threshold ≡ answer_of x used frame truths hypotheses gt hyp threshold
    unfolding answer_of
    answer_is = sym (rw w refl)

    there : ◌≡◌ {A = After} (record { number = r.number; state = state_of y r.used }) (answer_of x used frame truths hypotheses gt hyp threshold)
    there = c.booked ∙ answer_is

    pub kept : (r.number ≡ 0 → ⊥) → Answered x used frame truths hypotheses gt hyp threshold y used r.number
    kept n =
        let z = ne_eqb r.number 0 n in
        let same : y ≡ x = c.written ∙ rw z refl in
        record {
          number_is = ap (λ (u : After). u.number) there;
          state_is =
              ap (λ (v : Runs). state_in v used) same
              ∙ (sym (refused_keeps (state_in x used) frame truths hypotheses gt hyp threshold (λ q. n (ap (λ (u : After). u.number) c.booked ∙ q))) ∙ ap (λ (u : After). u.state) answer_is);
          runs_are = c.written;
          used_are = sym (rw z refl);
        }

    pub written : r.number ≡ 0 → (used' : List ℕ) → used' ≡ r.used.events ∷ r.used.truths ∷ r.used.hypotheses ∷ [] → Answered x used frame truths hypotheses gt hyp threshold y used' 0
    written z used' e =
        record {
          number_is = sym z ∙ ap (λ (u : After). u.number) there;
          state_is = ap (state_in y) e ∙ ap (λ (u : After). u.state) there;
          runs_are = c.written ∙ ap (λ (n : ℕ). runs_with n x (used_in used) frame truths hypotheses gt hyp threshold) z;
          used_are = e ∙ ap (λ (u : After). counts_of u.state) there;
        }
