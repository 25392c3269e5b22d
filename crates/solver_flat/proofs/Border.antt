-- Of the solver's export: the four ways out, and that there is one outcome only. Assumes nothing.
use Prim.Native.Nat.{ℕ, zero, suc, ◌<◌, ◌≤◌}
use mathlib.Core.Path.{◌≡◌, refl, sym, ap, ◌∙◌}
use mathlib.Core.List.{List}
use mathlib.Core.Logic.{⊎_elim}
use native.Mathlib.Nat.{eq-zero-or-pos}
use native.Mathlib.Omega.{arith}
use lib.Ieee.{Float}
use lib.ListN.{length}
use borrow.Author.Tests.{lt-ltb, le-ltb}
use Rattle.refusals.specs.Refusals.{number_of}
use Rattle.refusals.specs.declared.Refusal.{Refusal}
use Rattle.square.specs.Index.{gather, loop}
use Rattle.optimize.specs.declared.AssignmentResult.{AssignmentResult}
use Rattle.optimize.specs.Answer.{assignment_no, Answered, refused, no_rows, no_columns, found, result_of, empty_of, rows_alone}
use Rattle.optimize.proofs.Number.{fits}
use Rattle.optimize.proofs.Refused.{not_zero}
use Rattle.optimize.proofs.Answers.{answer_exists, one_answer, refused_at, no_rows_at, no_columns_at, found_at}
use Rattle.solver_flat.specs.Flat.{flat_after, flat_no, kept_or, Handed}
use Rattle.solver_flat.specs.Inner.{Found}

-- ---- the four ways out
refused_no : (number len : ℕ) → (number ≡ 0 → ⊥) → number ≡ flat_no number len
refused_no zero len x = absurd (x refl)
refused_no (suc number) len x = refl

refused_kept : (number : ℕ) (after before : List ℕ) → (number ≡ 0 → ⊥) → before ≡ kept_or number after before
refused_kept zero after before x = absurd (x refl)
refused_kept (suc number) after before x = refl

-- an answer that isn't refused has the number 0
number_zero : {m : List Float} {h w : ℕ} {limit : Float} {r : AssignmentResult} → assignment_no (length m) h w ≡ 0 → Answered m h w limit r → r.number ≡ 0
unfolding empty_of rows_alone result_of
number_zero z (refused x) = absurd (x z)
number_zero z (no_rows e y) = refl
number_zero z (no_columns e a y) = refl
number_zero z (found e a b s) = refl

-- no row is the case of no column with no row to list
no_row : rows_alone 0 ≡ empty_of 0
unfolding rows_alone empty_of gather loop
no_row = refl

module _ {m : List Float} {h w : ℕ} {limit : Float} (before : List ℕ) where
  pub handed_refused : (x : Refusal) → number_of x ≡ assignment_no (length m) h w → Handed m h w limit (number_of x) before before
  unfolding empty_of
  handed_refused x is = record {
    answer = empty_of (number_of x);
    answered = refused_at x is refl;
    number_is = refused_no (number_of x) (length before) (not_zero x);
    after_is = refused_kept (number_of x) _ before (not_zero x);
  }

  module _ (is : 0 ≡ assignment_no (length m) h w) where
    pub handed_short : length before < 261 → Handed m h w limit 6 before before
    handed_short short =
        let some = answer_exists m h w limit in
        record { answer = some.0; answered = some.1; number_is = rw (number_zero (sym is) some.1, lt-ltb (length before) 261 short); after_is = refl }

    module _ {after : List ℕ} (room : 261 ≤ length before) where
      written : {r : AssignmentResult} → Answered m h w limit r → after ≡ flat_after r before → Handed m h w limit 0 before after
      written {r} v e = record { answer = r; answered = v; number_is = rw (number_zero (sym is) v, le-ltb (length before) 261 room); after_is = e }

      pub handed_alone : w ≡ 0 → after ≡ flat_after (rows_alone h) before → Handed m h w limit 0 before after
      handed_alone none e = ⊎_elim
          (λ (y : h ≡ 0). written (no_rows_at is y refl) (e ∙ ap (λ (k : ℕ). flat_after (rows_alone k) before) y ∙ ap (λ (r : AssignmentResult). flat_after r before) no_row))
          (λ (a : 0 < h). written (no_columns_at is a none refl) e)
          (eq-zero-or-pos h)

      pub handed_found : 0 < w → Found m h w limit before after → Handed m h w limit 0 before after
      handed_found some f =
          let some_row : 0 < h = ⊎_elim (λ (y : h ≡ 0). absurd (omega (arith, (fits (length m) h w (sym is)).3 y))) (λ (a : 0 < h). a) (eq-zero-or-pos h) in
          written (found_at is some_row some f.solved refl) f.after_is

-- ONE OUTCOME: the number and the whole run
pub one_handing : {m : List Float} {h w : ℕ} {limit : Float} {n n' : ℕ} {before after after' : List ℕ} → Handed m h w limit n before after → Handed m h w limit n' before after' → (n ≡ n') × (after ≡ after')
one_handing {m} {h} {w} {limit} {n} {n'} {before} a b =
    let e = one_answer m h w limit a.answered b.answered in
    let q : n ≡ n' = a.number_is ∙ ap (λ (r : AssignmentResult). flat_no r.number (length before)) e ∙ sym b.number_is in
    (q, a.after_is ∙ ap (λ (k : ℕ). kept_or k (flat_after a.answer before) before) q ∙ ap (λ (r : AssignmentResult). kept_or n' (flat_after r before) before) e ∙ sym b.after_is)
