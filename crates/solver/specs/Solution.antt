-- The solver's one answer as a value. `Answered` says what it is, by document 01's steps; that there is one, and one only, makes it a value.
-- Nothing is computed by it: it stays shut, and is known by its two laws. Assumes nothing.
use Rattle.std.specs.Prelude.{ℕ, ◌≡◌, List, Float}
use Rattle.optimize.specs.declared.AssignmentResult.{AssignmentResult}
use Rattle.optimize.specs.Answer.{Answered}
use Rattle.optimize.proofs.Answers.{answer_exists, one_answer}

-- THE SOLVER'S ANSWER to the matrix m of h rows and w columns
pub solution_of : List Float → ℕ → ℕ → Float → AssignmentResult
solution_of m h w limit = (answer_exists m h w limit).0

module _ (m : List Float) (h w : ℕ) (limit : Float) where
  -- it is an answer
  pub solution_answers : Answered m h w limit (solution_of m h w limit)
  unfolding solution_of
  solution_answers = (answer_exists m h w limit).1

  -- and every answer is it
  pub answer_is : {r : AssignmentResult} → Answered m h w limit r → r ≡ solution_of m h w limit
  answer_is a = one_answer m h w limit a solution_answers
