-- Of the public call: there is an answer, it is one only, and its counts are bounded. Assumes nothing.
use Prim.Native.Nat.{ℕ, ◌<◌, ◌≤◌, ◌-◌, max}
use mathlib.Core.Path.{◌≡◌, refl, sym, ap, ◌∙◌, subst}
use mathlib.Core.List.{List}
use mathlib.Core.Logic.{⊎_elim}
use native.Mathlib.Omega.{arith}
use native.Mathlib.Nat.{eq-zero-or-pos}
use lib.ListN.{length}
use lib.Ieee.{Float}
use Rattle.square.proofs.Index.{eq-or-not}
use Rattle.start.specs.Steps.{start_of}
use Rattle.refusals.specs.Refusals.{number_of}
use Rattle.refusals.specs.declared.Refusal.{Refusal}
use Rattle.search.specs.Run.{pairs, sum_from}
use Rattle.optimize.specs.declared.AssignmentResult.{AssignmentResult}
use Rattle.optimize.specs.Answer.{assignment_no, Solved, Answered, refused, no_rows, no_columns, found, result_of, empty_of, rows_alone}
use Rattle.optimize.proofs.Number.{fits}
use Rattle.optimize.proofs.Refused.{not_zero}
use Rattle.hungarian.proofs.Solve.{solved_one, solved_exists, solved_bounded}

module _ (m : List Float) (h w : ℕ) (limit : Float) where
  -- ONE ANSWER: two permitted answers are the same
  pub one_answer : {r r' : AssignmentResult} → Answered m h w limit r → Answered m h w limit r' → r ≡ r'
  one_answer (refused x) (refused y) = refl
  one_answer (refused x) (no_rows e z) = absurd (x e)
  one_answer (refused x) (no_columns e a z) = absurd (x e)
  one_answer (refused x) (found e a b s) = absurd (x e)
  one_answer (no_rows e z) (refused y) = absurd (y e)
  one_answer (no_rows e z) (no_rows e' z') = refl
  one_answer (no_rows e z) (no_columns e' a z') = absurd (omega arith)
  one_answer (no_rows e z) (found e' a b s) = absurd (omega arith)
  one_answer (no_columns e a z) (refused y) = absurd (y e)
  one_answer (no_columns e a z) (no_rows e' z') = absurd (omega arith)
  one_answer (no_columns e a z) (no_columns e' a' z') = refl
  one_answer (no_columns e a z) (found e' a' b s) = absurd (omega arith)
  one_answer (found e a b s) (refused y) = absurd (y e)
  one_answer (found e a b s) (no_rows e' z) = absurd (omega arith)
  one_answer (found e a b s) (no_columns e' a' z) = absurd (omega arith)
  one_answer (found {corrections = c} {paths = p} {rows = R} e a b s) (found {corrections = c'} {paths = p'} {rows = R'} e' a' b' s') =
      let f = fits (length m) h w e in
      let v = solved_one m h w f.0 f.1 s s' in
      ap (λ (x : ℕ). result_of m h w limit R x p) v.0 ∙ ap (λ (x : ℕ). result_of m h w limit R c' x) v.1 ∙ ap (λ (x : List ℕ). result_of m h w limit x c' p') v.2

  -- AN ANSWER for every input
  abbrev Some : Type 0
  Some = (r : AssignmentResult) × Answered m h w limit r

  solved_answer : assignment_no (length m) h w ≡ 0 → 0 < h → 0 < w → Some
  solved_answer e a b =
      let f = fits (length m) h w e in
      let v = solved_exists m h w f.0 f.1 in
      (result_of m h w limit v.2 v.0 v.1, found e a b v.3)

  accepted : assignment_no (length m) h w ≡ 0 → Some
  accepted e = ⊎_elim
      (λ (z : h ≡ 0). (empty_of 0, no_rows e z))
      (λ (a : 0 < h). ⊎_elim (λ (z : w ≡ 0). (rows_alone h, no_columns e a z)) (λ (b : 0 < w). solved_answer e a b) (eq-zero-or-pos w))
      (eq-zero-or-pos h)

  pub answer_exists : (r : AssignmentResult) × Answered m h w limit r
  answer_exists = ⊎_elim
      (λ (e : assignment_no (length m) h w ≡ 0). accepted e)
      (λ (x : assignment_no (length m) h w ≡ 0 → ⊥). (empty_of (assignment_no (length m) h w), refused x))
      (eq-or-not (assignment_no (length m) h w) 0)

  -- THE BOUNDS of every permitted answer: n the padded side, k the pairs of the first pass. With no rows or no columns, and beside a refusal, both counts are 0.
  pub answer_bounded : {r : AssignmentResult} → Answered m h w limit r
      → (r.paths ≤ max h w - pairs (max h w) (start_of m h w)) × (r.corrections ≤ sum_from (pairs (max h w) (start_of m h w)) (max h w - pairs (max h w) (start_of m h w)))
  unfolding empty_of rows_alone result_of
  answer_bounded (refused x) = (omega arith, omega arith)
  answer_bounded (no_rows e z) = (omega arith, omega arith)
  answer_bounded (no_columns e a z) = (omega arith, omega arith)
  answer_bounded (found e a b s) = let f = fits (length m) h w e in solved_bounded m h w f.0 f.1 s

-- ---- what each return of the code hands on
module _ {m : List Float} {h w : ℕ} {limit : Float} {r : AssignmentResult} where
  pub refused_at : (x : Refusal) → number_of x ≡ assignment_no (length m) h w → r ≡ empty_of (number_of x) → Answered m h w limit r
  refused_at x is e = subst (Answered m h w limit) (sym (e ∙ ap empty_of is)) (refused (λ z. not_zero x (is ∙ z)))

  pub no_rows_at : 0 ≡ assignment_no (length m) h w → h ≡ 0 → r ≡ empty_of 0 → Answered m h w limit r
  no_rows_at is y e = subst (Answered m h w limit) (sym e) (no_rows (sym is) y)

  pub no_columns_at : 0 ≡ assignment_no (length m) h w → 0 < h → w ≡ 0 → r ≡ rows_alone h → Answered m h w limit r
  no_columns_at is a y e = subst (Answered m h w limit) (sym e) (no_columns (sym is) a y)

  pub found_at : 0 ≡ assignment_no (length m) h w → 0 < h → 0 < w → {c p : ℕ} {rows : List ℕ} → Solved m h w c p rows → r ≡ result_of m h w limit rows c p → Answered m h w limit r
  found_at is a b s e = subst (Answered m h w limit) (sym e) (found (sym is) a b s)
