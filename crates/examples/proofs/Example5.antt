-- Example 5 of document 01: rows (0, 4), (1, 9), max 3. The first pass pairs (0, 0); the path from row 1 flips it. Assumes nothing.
use mathlib.Core.Path.{◌≡◌, refl, sym, ap, ◌∙◌, subst}
use mathlib.Core.Bool.{false, true≢false}
use mathlib.Core.List.{List, [], ◌∷◌}
use mathlib.Core.Logic.{inl}
use lib.Dec.{lit<}
use lib.ListN.{set, replicate}
use lib.Ieee.{Float, of_int, lt, le, eq, sub}
use Rattle.floats.specs.Float.{zero64, is_finite, is_zero, abs_of}
use Rattle.square.specs.Index.{gather, count, any}
use Rattle.square.specs.Square.{over, zero_at, line}
use Rattle.square.proofs.Index.{below_none, below_more}
use Rattle.paths.specs.State.{State, state, paired}
use Rattle.paths.specs.Path.{bfs_of, Path, last, next}
use Rattle.start.specs.Steps.{start_of}
use Rattle.search.specs.Run.{Run, stop, path}
use Rattle.optimize.specs.Answer.{assignment_no, Answered, found, passes_of, result_of}
use Rattle.solver.specs.Solution.{solution_of, answer_is}
use Rattle.examples.specs.Shown.{whole, shown, pair, two}
use Rattle.examples.specs.Table.{fours}
use Rattle.examples.proofs.Steps.{full_by}

matrix : List Float
matrix = zero64 ∷ two 1 2 ∷ two 1 0 ∷ two 9 0 ∷ []

-- after step B (0, 0), (0, 4)
square : List Float
square = set (replicate 128 zero64) 65 (two 1 2)

s0 : State
unfolding square
s0 = state square (0 ∷ replicate 63 64) (0 ∷ replicate 63 64)

s1 : State
unfolding square
s1 = state square (1 ∷ 0 ∷ replicate 62 64) (1 ∷ 0 ∷ replicate 62 64)

start : start_of matrix 2 2 ≡ s0
unfolding matrix s0 start_of over line zero_at is_finite is_zero abs_of lt sub
start = refl

path1 : Path 2 s0 s1
unfolding s0 s1 bfs_of zero_at is_zero abs_of lt
path1 = record {
  row = 1;
  row_in = lit< tt;
  row_free = refl;
  first = below_more 0 (λ i. paired 2 s0.rows i ≡ false → (bfs_of s0.square 2 s0.cols i).hit ≡ 64) (below_none _) (λ e. absurd (true≢false e));
  hit_in = lit< tt;
  same = refl;
  flips = next (lit< tt) last;
}

run : Run 2 s0 0 1 s1
unfolding s1 any
run = path path1 (stop (inl (full_by 2 s1 refl)))

number : assignment_no 4 2 2 ≡ 0
unfolding assignment_no
number = refl

answered : Answered matrix 2 2 (two 3 0) (shown (pair 1 0 ∷ []) (0 ∷ []) (1 ∷ []) 0 1)
unfolding result_of matrix s1 gather count any passes_of le eq lt
answered = found number (lit< tt) (lit< tt) (record { square = s1.square; cols = s1.cols; run = subst (λ (x : State). Run 2 x 0 1 s1) (sym start) run })

matrix_is : matrix ≡ fours
unfolding matrix of_int
matrix_is = refl

-- EXAMPLE 5: pair (1, 0); row 0 and column 1 left; 0 corrections, 1 path change
pub example_5 : solution_of fours 2 2 (whole 3) ≡ shown (pair 1 0 ∷ []) (0 ∷ []) (1 ∷ []) 0 1
unfolding of_int
example_5 = ap (λ (m : List Float). solution_of m 2 2 (two 3 0)) (sym matrix_is) ∙ sym (answer_is matrix 2 2 (two 3 0) answered)
