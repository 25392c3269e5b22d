-- Examples 9 and 16 of document 01: two rows and no columns; 64 rows and 65 columns. Assumes nothing.
use mathlib.Core.Path.{◌≡◌, refl, sym, ap, subst}
use mathlib.Core.List.{List, [], ◌∷◌}
use native.Mathlib.Omega.{arith}
use lib.ListN.{length}
use lib.Ieee.{Float}
use lib.Dec.{lit<}
use Rattle.square.specs.Index.{gather}
use Rattle.optimize.specs.Answer.{assignment_no, Answered, refused, no_columns, empty_of, rows_alone}
use Rattle.solver.specs.Solution.{solution_of, answer_is}
use Rattle.examples.specs.Shown.{shown}

number_9 : assignment_no 0 2 0 ≡ 0
unfolding assignment_no
number_9 = refl

alone : (limit : Float) → Answered [] 2 0 limit (shown [] (0 ∷ 1 ∷ []) [] 0 0)
unfolding rows_alone gather
alone limit = no_columns number_9 (lit< tt) refl

-- EXAMPLE 9: rows 0 and 1 are left, whatever max_cost is
pub example_9 : (limit : Float) → solution_of [] 2 0 limit ≡ shown [] (0 ∷ 1 ∷ []) [] 0 0
example_9 limit = sym (answer_is [] 2 0 limit (alone limit))

number_16 : (m : List Float) → assignment_no (length m) 64 65 ≡ 2
unfolding assignment_no
number_16 m = refl

large : (m : List Float) (limit : Float) → Answered m 64 65 limit (empty_of 2)
large m limit = subst (Answered m 64 65 limit) (ap empty_of (number_16 m)) (refused (λ z. absurd (omega (arith, number_16 m, z))))

-- EXAMPLE 16: refusal 2, whatever the costs
pub example_16 : (m : List Float) (limit : Float) → solution_of m 64 65 limit ≡ empty_of 2
example_16 m limit = sym (answer_is m 64 65 limit (large m limit))
