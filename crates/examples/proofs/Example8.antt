-- Example 8 of document 01: one NaN cell. Step B finds no finite minimum, no zero leads anywhere, and step F's minimum is +infinity. Assumes nothing.
use Prim.Native.Nat.{◌≤◌}
use mathlib.Core.Path.{◌≡◌, refl, sym, subst}
use mathlib.Core.Bool.{true, false}
use mathlib.Core.List.{List, [], ◌∷◌}
use mathlib.Core.Logic.{inr}
use lib.Dec.{lit<, lit≤}
use lib.ListN.{set, replicate}
use lib.Ieee.{Float, nan, lt, le, eq}
use Rattle.floats.specs.Float.{zero64, is_finite, is_zero, abs_of}
use Rattle.square.specs.Index.{gather, count, any}
use Rattle.square.specs.Square.{over, zero_at}
use Rattle.square.proofs.Index.{below_none, below_more}
use Rattle.paths.specs.State.{State, state, paired}
use Rattle.paths.specs.Path.{bfs_of, NoPath}
use Rattle.start.specs.Steps.{start_of}
use Rattle.search.specs.Steps.{Reached, Stuck, least_rows, useful_of}
use Rattle.search.specs.Run.{Run, stop}
use Rattle.search.proofs.ReachOf.{clear, mark_row, part_none, free_missing, zero_missing, pair_missing}
use Rattle.optimize.specs.Answer.{assignment_no, Answered, found, passes_of, result_of}
use Rattle.solver.specs.Solution.{solution_of, answer_is}
use Rattle.examples.specs.Shown.{shown}
use Rattle.examples.proofs.Steps.{reached_by}

abbrev matrix : List Float
matrix = nan ∷ []

s : State
s = state (set (replicate 64 zero64) 0 nan) (replicate 64 64) (replicate 64 64)

start : start_of matrix 1 1 ≡ s
unfolding s start_of over zero_at is_finite is_zero abs_of lt
start = refl

reached : Reached 1 s (set clear 0 true) clear
unfolding s any free_missing zero_missing pair_missing zero_at is_zero abs_of lt
reached =
    let n64 : 1 ≤ 64 = lit≤ tt in
    reached_by 1 s n64 (set clear 0 true) clear (mark_row 1 n64 s clear clear 0 (λ P Q c h v. h 0 (lit< tt) refl) (part_none 1 n64 s)) refl refl refl

no_path : NoPath 1 s
unfolding s bfs_of zero_at is_zero abs_of lt
no_path = below_more 0 (λ i. paired 1 s.rows i ≡ false → (bfs_of s.square 1 s.cols i).hit ≡ 64) (below_none _) (λ _. refl)

stuck : Stuck 1 s
unfolding s least_rows useful_of is_finite lt
stuck = record { R = set clear 0 true; C = clear; blocked = record { row = 0; row_in = lit< tt; row_free = refl; no_path = no_path; reached = reached }; no_use = refl }

number : assignment_no 1 1 1 ≡ 0
unfolding assignment_no
number = refl

answered : (limit : Float) → Answered matrix 1 1 limit (shown [] (0 ∷ []) (0 ∷ []) 0 0)
unfolding result_of s gather count any passes_of le eq lt
answered limit = found number (lit< tt) (lit< tt)
    (record { square = s.square; cols = s.cols; run = subst (λ (x : State). Run 1 x 0 0 s) (sym start) (stop (inr stuck)) })

-- EXAMPLE 8: nothing is paired, counts 0, whatever max_cost is
pub example_8 : (limit : Float) → solution_of matrix 1 1 limit ≡ shown [] (0 ∷ []) (0 ∷ []) 0 0
example_8 limit = sym (answer_is matrix 1 1 limit (answered limit))
