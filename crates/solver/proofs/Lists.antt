-- Where the lists of the solver's answer lie: rows below h, columns below w, and no more of them than there are. Assumes nothing.
use Prim.Native.Nat.{ℕ, ◌+◌, ◌<◌, ◌≤◌}
use mathlib.Core.Path.{◌≡◌, refl, sym, ap, ◌∙◌, subst}
use mathlib.Core.Bool.{true}
use mathlib.Core.List.{List, ◌++◌, map}
use mathlib.Core.Logic.{⊎_elim}
use native.Mathlib.Omega.{arith}
use native.Mathlib.Nat.{not-suc-le-zero}
use lib.ListN.{length, get_or, take, length-append, get_or-append, get_or-eq_default}
use lib.Seq.{get_or-take, get_or-append-add}
use lib.Ieee.{Float}
use Rattle.std.specs.List.{take-map}
use Rattle.square.specs.Index.{Once, gather, filled}
use Rattle.square.proofs.Index.{lt-or-ge}
use Rattle.square.proofs.Count.{count_all}
use Rattle.square.proofs.Gather.{gather_at, gather-length}
use Rattle.optimize.specs.declared.Assignment.{Assignment}
use Rattle.optimize.specs.Answer.{Answered, refused, no_rows, no_columns, found, assignment_no, result_of, rows_alone}
use Rattle.optimize.specs.declared.AssignmentResult.{AssignmentResult}
use Rattle.optimize.proofs.Names.{Named, named, pair_rows, pair_cols, left_rows, left_cols}
use Rattle.solver.specs.Solution.{solution_of, solution_answers, answer_is}

-- ---- each part of a list that names each number once lies below
first_below : (k : ℕ) (a b : List ℕ) → Once k (a ++ b) → (t : ℕ) → t < length a → get_or a t 0 < k
first_below k a b o t l =
    subst (λ (x : ℕ). x < k) (get_or-append a b 0 t l) (o.inside t (rw length-append (omega arith)))

module _ (m : List Float) (h w : ℕ) (limit : Float) (h_some : 0 < h) (w_some : 0 < w) (done : (solution_of m h w limit).number ≡ 0) where
  abbrev answer : AssignmentResult
  answer = solution_of m h w limit

  -- each row once, each column once, each list rising
  pub solution_named : Named h w answer
  solution_named = named m h w limit h_some w_some (solution_answers m h w limit) done

  pub pair_row_in : (t : ℕ) → t < length (pair_rows answer) → get_or (pair_rows answer) t 0 < h
  pair_row_in = first_below h (pair_rows answer) (left_rows answer) solution_named.rows

  pub pair_col_in : (t : ℕ) → t < length (pair_cols answer) → get_or (pair_cols answer) t 0 < w
  pair_col_in = first_below w (pair_cols answer) (left_cols answer) solution_named.cols

-- ---- the same of the places that the lists stand in
pub record Placed (h w : ℕ) (r : AssignmentResult) : Type 0 where
  pub row_count : r.num_assignments + r.num_unmatched_rows ≡ h
  pub row_in : (k : ℕ) → k < r.num_assignments → get_or (map (λ (a : Assignment). a.row_idx) r.assignments) k 0 < h
  pub col_in : (k : ℕ) → k < r.num_assignments → get_or (map (λ (a : Assignment). a.col_idx) r.assignments) k 0 < w
  pub left_in : (k : ℕ) → k < r.num_unmatched_rows → get_or r.unmatched_rows k 0 < h
  pub extra_few : r.num_unmatched_cols ≤ w

-- past a list's end stands 0, which is below too
all_below : (b : ℕ) (l : List ℕ) → 0 < b → ((t : ℕ) → t < length l → get_or l t 0 < b) → (k : ℕ) → get_or l k 0 < b
all_below b l some inside k = ⊎_elim
    (λ (i : k < length l). inside k i)
    (λ (i : length l ≤ k). subst (λ (x : ℕ). x < b) (sym (get_or-eq_default l 0 i)) some)
    (lt-or-ge k (length l))

module _ (b : ℕ) (xs ys : List ℕ) (some : 0 < b) (o : Once b (xs ++ ys)) (k : ℕ) where
  first_all : get_or xs k 0 < b
  first_all = all_below b xs some (first_below b xs ys o) k

  second_all : get_or ys k 0 < b
  second_all = all_below b ys some
      (λ t l. subst (λ (x : ℕ). x < b) (get_or-append-add xs ys t 0) (o.inside (length xs + t) (rw length-append (omega arith)))) k

in_pairs : (f : Assignment → ℕ) (b n : ℕ) (l : List Assignment) (k : ℕ) → k < n → get_or (map f (take n l)) k 0 < b → get_or (map f l) k 0 < b
in_pairs f b n l k i below = subst (λ (x : ℕ). x < b) (ap (λ (z : List ℕ). get_or z k 0) (sym (take-map f n l)) ∙ get_or-take n (map f l) k 0 i) below

named_placed : (h w : ℕ) (r : AssignmentResult) → 0 < h → 0 < w → Named h w r → Placed h w r
named_placed h w r h_some w_some n = record {
  row_count = n.row_count;
  row_in = λ k i. in_pairs (λ (a : Assignment). a.row_idx) h _ r.assignments k i (first_all h (pair_rows r) (left_rows r) h_some n.rows k);
  col_in = λ k i. in_pairs (λ (a : Assignment). a.col_idx) w _ r.assignments k i (first_all w (pair_cols r) (left_cols r) w_some n.cols k);
  left_in = λ k i. subst (λ (x : ℕ). x < h) (get_or-take _ r.unmatched_rows k 0 i) (second_all h (pair_rows r) (left_rows r) h_some n.rows k);
  extra_few = let q = n.col_count in omega arith;
}

-- every row alone: its place is its number
pub alone_at : (h k : ℕ) → k < h → get_or (filled 0 (gather h (λ _. true) (λ i. i))) k 0 ≡ k
alone_at h k i =
    let g = gather h (λ _. true) (λ i. i) in
    let n : length g ≡ h = gather-length (λ _. true) (λ i. i) h ∙ count_all h (λ _. true) (λ _ _. refl) in
    get_or-append g _ 0 k (omega arith)
    ∙ (ap (λ (x : ℕ). get_or g x 0) (sym (count_all k (λ _. true) (λ _ _. refl))) ∙ gather_at (λ _. true) (λ i. i) h k 0 i refl)

alone_placed : (h w : ℕ) → Placed h w (rows_alone h)
unfolding rows_alone
alone_placed h w = record {
  row_count = omega arith;
  row_in = λ k i. absurd (not-suc-le-zero i);
  col_in = λ k i. absurd (not-suc-le-zero i);
  left_in = λ k i. subst (λ (x : ℕ). x < h) (sym (alone_at h k i)) i;
  extra_few = omega arith;
}

module _ (m : List Float) (h w : ℕ) (limit : Float) (some : 0 < h) (accepted : assignment_no (length m) h w ≡ 0) where
  placed : {r : AssignmentResult} → Answered m h w limit r → Placed h w r
  unfolding result_of
  placed (refused x) = absurd (x accepted)
  placed (no_rows e z) = absurd (omega arith)
  placed (no_columns e a z) = alone_placed h w
  placed (found {corrections = c} {paths = p} {rows = R} e a b s) =
      named_placed h w (result_of m h w limit R c p) a b (named m h w limit a b (found e a b s) refl)

  -- OF THE ONE ANSWER, where there are rows and no refusal
  pub solution_placed : Placed h w (solution_of m h w limit)
  solution_placed = placed (solution_answers m h w limit)

  -- "No predictions: all truth missed"
  pub solution_alone : w ≡ 0 → solution_of m h w limit ≡ rows_alone h
  solution_alone z = sym (answer_is m h w limit (no_columns accepted some z))
