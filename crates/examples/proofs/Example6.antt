-- Examples 6 and 7 of document 01: rows (1, 2, 3), (2, 4, 6), (3, 6, 9), max 9 and max 3. A path, a correction by 1, a path. Assumes nothing.
use Prim.Native.Nat.{ℕ, ◌≤◌}
use mathlib.Core.Path.{◌≡◌, refl, sym, ap, ◌∙◌, subst}
use mathlib.Core.Bool.{Bool, true, false, true≢false}
use mathlib.Core.List.{List, [], ◌∷◌}
use mathlib.Core.Logic.{inl}
use lib.Dec.{lit<, lit≤}
use lib.ListN.{set, replicate}
use lib.Ieee.{Float, of_int, lt, le, eq, add, sub}
use Rattle.floats.specs.Float.{zero64, is_finite, is_zero, abs_of}
use Rattle.square.specs.Index.{gather, count, any}
use Rattle.square.specs.Square.{over, zero_at, line}
use Rattle.square.proofs.Index.{below_none, below_more}
use Rattle.paths.specs.State.{State, state, paired}
use Rattle.paths.specs.Path.{bfs_of, Path, last, next, NoPath}
use Rattle.start.specs.Steps.{pairs_of, no_pairs, pair_rows, square_of, start_of}
use Rattle.search.specs.Steps.{Reached, Corr, least_rows, least_over, useful_of, shifted_of, shift_of}
use Rattle.search.specs.Run.{Run, stop, path, correct}
use Rattle.search.proofs.ReachOf.{clear, mark_row, mark_col, part_none, free_missing, zero_missing, pair_missing}
use Rattle.optimize.specs.Answer.{assignment_no, Answered, found, passes_of, Solved, result_of}
use Rattle.solver.specs.Solution.{solution_of, answer_is}
use Rattle.examples.specs.Shown.{whole, shown, pair, two}
use Rattle.examples.specs.Table.{nines}
use Rattle.examples.proofs.Steps.{full_by, reached_by}

matrix : List Float
matrix = two 1 0 ∷ two 1 1 ∷ two 3 0 ∷ two 1 1 ∷ two 1 2 ∷ two 3 1 ∷ two 3 0 ∷ two 3 1 ∷ two 9 0 ∷ []

-- ---- A to C: the square (0, 0, 0), (0, 1, 2), (0, 2, 4), and the pair (0, 0)
square0 : List Float
square0 = set (set (set (set (replicate 192 zero64) 65 (two 1 0)) 66 (two 1 1)) 129 (two 1 1)) 130 (two 1 2)

square_is : square_of matrix 3 3 ≡ square0
unfolding matrix square0 square_of over line is_finite lt sub
square_is = refl

pairs_are : pair_rows square0 3 3 no_pairs ≡ pairs_of (0 ∷ replicate 63 64) (0 ∷ replicate 63 64)
unfolding square0 pair_rows zero_at is_zero abs_of lt
pairs_are = refl

s0 : State
unfolding square0
s0 = state square0 (0 ∷ replicate 63 64) (0 ∷ replicate 63 64)

start : start_of matrix 3 3 ≡ s0
unfolding s0 start_of
start =
    let p : pair_rows (square_of matrix 3 3) 3 3 no_pairs ≡ pairs_of (0 ∷ replicate 63 64) (0 ∷ replicate 63 64) = ap (λ (c : List Float). pair_rows c 3 3 no_pairs) square_is ∙ pairs_are in
    λ i. record { square = square_is i; rows = (p i).rows; cols = (p i).cols }

-- ---- E: the path from row 1
s1 : State
unfolding square0
s1 = state square0 (1 ∷ 0 ∷ replicate 62 64) (1 ∷ 0 ∷ replicate 62 64)

path1 : Path 3 s0 s1
unfolding s0 s1 bfs_of zero_at is_zero abs_of lt
path1 = record {
  row = 1;
  row_in = lit< tt;
  row_free = refl;
  first = below_more 0 (λ i. paired 3 s0.rows i ≡ false → (bfs_of s0.square 3 s0.cols i).hit ≡ 64) (below_none _) (λ e. absurd (true≢false e));
  hit_in = lit< tt;
  same = refl;
  flips = next (lit< tt) last;
}

-- ---- F: no path from row 2; rows 1 and 2 and column 0 are reached, and the minimum is 1
none1 : NoPath 3 s1
unfolding s1 bfs_of zero_at is_zero abs_of lt
none1 = below_more 2 NoHit (below_more 1 NoHit (below_more 0 NoHit (below_none NoHit) (λ e. absurd (true≢false e))) (λ e. absurd (true≢false e))) (λ _. refl)
  where
    NoHit : ℕ → Type 0
    NoHit i = paired 3 s1.rows i ≡ false → (bfs_of s1.square 3 s1.cols i).hit ≡ 64

abbrev R1 : List Bool
R1 = set (set clear 2 true) 1 true

abbrev C1 : List Bool
C1 = set clear 0 true

reached1 : Reached 3 s1 R1 C1
unfolding s1 any free_missing zero_missing pair_missing zero_at is_zero abs_of lt
reached1 =
    let n64 : 3 ≤ 64 = lit≤ tt in
    let p1 = mark_row 3 n64 s1 clear clear 2 (λ P Q c h v. h 2 (lit< tt) refl) (part_none 3 n64 s1) in
    let p2 = mark_col 3 n64 s1 (set clear 2 true) clear 0 (λ P Q c h v. c.row 2 0 (lit< tt) (lit< tt) (v.0 2 refl) refl) p1 in
    let p3 = mark_row 3 n64 s1 (set clear 2 true) (set clear 0 true) 1 (λ P Q c h v. c.col 0 (lit< tt) (v.1 0 refl) (lit< tt)) p2 in
    reached_by 3 s1 n64 R1 C1 p3 refl refl refl

least1 : least_over s1.square 3 R1 C1 ≡ two 1 0
unfolding s1 least_rows lt
least1 = refl

use1 : useful_of (two 1 0) ≡ true
unfolding useful_of is_finite le lt eq
use1 = refl

-- ---- G: the square (1, 0, 0), (0, 0, 1), (0, 1, 3)
square1 : List Float
square1 = set (set (set (set (replicate 192 zero64) 0 (two 1 0)) 66 (two 1 0)) 129 (two 1 0)) 130 (two 3 0)

moved1 : shift_of 3 R1 C1 (two 1 0) square0 ≡ square1
unfolding square0 square1 over line shifted_of add sub
moved1 = refl

s2 : State
unfolding square1
s2 = state square1 (1 ∷ 0 ∷ replicate 62 64) (1 ∷ 0 ∷ replicate 62 64)

corr1 : Corr 3 s1 s2
unfolding s1 s2
corr1 = record {
  R = R1;
  C = C1;
  blocked = record { row = 2; row_in = lit< tt; row_free = refl; no_path = none1; reached = reached1 };
  of_use = ap useful_of least1 ∙ use1;
  result = λ i. record { square = (sym moved1 ∙ ap (λ (x : Float). shift_of 3 R1 C1 x square0) (sym least1)) i; rows = 1 ∷ 0 ∷ replicate 62 64; cols = 1 ∷ 0 ∷ replicate 62 64 };
}

-- ---- E: the path from row 2, and D
s3 : State
unfolding square1
s3 = state square1 (2 ∷ 1 ∷ 0 ∷ replicate 61 64) (2 ∷ 1 ∷ 0 ∷ replicate 61 64)

path2 : Path 3 s2 s3
unfolding s2 s3 bfs_of zero_at is_zero abs_of lt
path2 = record {
  row = 2;
  row_in = lit< tt;
  row_free = refl;
  first = below_more 1 NoHit (below_more 0 NoHit (below_none NoHit) (λ e. absurd (true≢false e))) (λ e. absurd (true≢false e));
  hit_in = lit< tt;
  same = refl;
  flips = next (lit< tt) (next (lit< tt) last);
}
  where
    NoHit : ℕ → Type 0
    NoHit i = paired 3 s2.rows i ≡ false → (bfs_of s2.square 3 s2.cols i).hit ≡ 64

run : Run 3 s0 1 2 s3
unfolding s3 any
run = path path1 (correct corr1 (path path2 (stop (inl (full_by 3 s3 refl)))))

solved : Solved matrix 3 3 1 2 (2 ∷ 1 ∷ 0 ∷ replicate 61 64)
unfolding s3
solved = record { square = square1; cols = 2 ∷ 1 ∷ 0 ∷ replicate 61 64; run = subst (λ (x : State). Run 3 x 1 2 s3) (sym start) run }

number : assignment_no 9 3 3 ≡ 0
unfolding assignment_no
number = refl

nine : Answered matrix 3 3 (two 9 0) (shown (pair 0 2 ∷ pair 1 1 ∷ pair 2 0 ∷ []) [] [] 1 2)
unfolding result_of matrix gather count any passes_of le eq lt
nine = found number (lit< tt) (lit< tt) solved

three : Answered matrix 3 3 (two 3 0) (shown (pair 0 2 ∷ pair 2 0 ∷ []) (1 ∷ []) (1 ∷ []) 1 2)
unfolding result_of matrix gather count any passes_of le eq lt
three = found number (lit< tt) (lit< tt) solved

matrix_is : matrix ≡ nines
unfolding matrix of_int
matrix_is = refl

-- EXAMPLE 6: (0, 2), (1, 1), (2, 0); 1 correction, 2 path changes
pub example_6 : solution_of nines 3 3 (whole 9) ≡ shown (pair 0 2 ∷ pair 1 1 ∷ pair 2 0 ∷ []) [] [] 1 2
unfolding of_int
example_6 = ap (λ (m : List Float). solution_of m 3 3 (two 9 0)) (sym matrix_is) ∙ sym (answer_is matrix 3 3 (two 9 0) nine)

-- EXAMPLE 7: (0, 2), (2, 0); row 1 and column 1 left
pub example_7 : solution_of nines 3 3 (whole 3) ≡ shown (pair 0 2 ∷ pair 2 0 ∷ []) (1 ∷ []) (1 ∷ []) 1 2
unfolding of_int
example_7 = ap (λ (m : List Float). solution_of m 3 3 (two 3 0)) (sym matrix_is) ∙ sym (answer_is matrix 3 3 (two 3 0) three)
