-- The solver's answer across the border: 261 places of a lent run.
use Rattle.std.specs.Prelude.{ℕ, zero, suc, ◌≡◌, cond, List, [], ◌∷◌, ◌++◌, map, ltb, Float, length, drop}
use Rattle.optimize.specs.Answer.{Answered}
use Rattle.optimize.specs.declared.Assignment.{Assignment}
use Rattle.optimize.specs.declared.AssignmentResult.{AssignmentResult}

-- how many pairs, unmatched rows and unmatched columns; then the two counts
abbrev pub counts_of : AssignmentResult → List ℕ
counts_of r = r.num_assignments ∷ r.num_unmatched_rows ∷ r.num_unmatched_cols ∷ r.corrections ∷ r.paths ∷ []

abbrev pub rows_of : List Assignment → List ℕ
rows_of pairs = map (λ (p : Assignment). p.row_idx) pairs

abbrev pub cols_of : List Assignment → List ℕ
cols_of pairs = map (λ (p : Assignment). p.col_idx) pairs

-- five counts; then 64 places each: the pairs' rows, their columns, the unmatched rows, the unmatched columns; what stands behind the 261 stays
unfoldable pub flat_after : AssignmentResult → List ℕ → List ℕ
flat_after r out = counts_of r ++ (rows_of r.assignments ++ (cols_of r.assignments ++ (r.unmatched_rows ++ (r.unmatched_cols ++ drop 261 out))))

-- the solver's own number; 6 where that is 0 and the lent run is shorter than 261
abbrev pub flat_no : ℕ → ℕ → ℕ
flat_no zero len = cond (ltb len 261) 6 0
flat_no (suc number) len = suc number

-- written over at 0, kept at a refusal
abbrev pub kept_or : ℕ → List ℕ → List ℕ → List ℕ
kept_or zero after before = after
kept_or (suc number) after before = before

-- THE CALL: of an answer that the solver may give, of which there is one
pub record Handed (m : List Float) (h w : ℕ) (limit : Float) (number : ℕ) (before after : List ℕ) : Type 0 where
  pub answer : AssignmentResult
  pub answered : Answered m h w limit answer
  pub number_is : number ≡ flat_no answer.number (length before)
  pub after_is : after ≡ kept_or number (flat_after answer before) before
