-- The pairing that the solver's answer gives, and where its lists lie. Assumes nothing.
use mathlib.Core.Path.{◌≡◌, sym, ap, ◌∙◌, subst}
use mathlib.Core.List.{List}
use Prim.Native.Nat.{ℕ, ◌+◌, ◌*◌, ◌<◌, ◌≤◌}
use native.Mathlib.Omega.{arith}
use lib.ListN.{length, get_or}
use lib.Ieee.{Float}
use Rattle.optimize.specs.declared.AssignmentResult.{AssignmentResult}
use Rattle.solver.specs.Solution.{solution_of}
use Rattle.optimize.proofs.Number.{taken}
use Rattle.solver.proofs.Lists.{Placed, solution_placed}
use Rattle.pairing.specs.Pairing.{rows_of, cols_of, sum_of, pairs_in, paired_of, found}
use Rattle.pairing.proofs.Sums.{in_run}

module _ (m : List Float) (h w : ℕ) (limit : Float) (a : AssignmentResult) (is : a ≡ solution_of m h w limit)
    (some : 0 < h) (hh : h ≤ 64) (hw : w ≤ 64) (long : length m ≡ h * w) where
  place : Placed h w a
  place = subst (Placed h w) (sym is) (solution_placed m h w limit some (taken (length m) h w some hh hw long))

  pub few : a.num_assignments ≤ 64
  few = let r = place.row_count in omega arith

  module _ (rows cols : List ℕ) (r : rows ≡ rows_of a.assignments) (c : cols ≡ cols_of a.assignments) where
    pub in_matrix : (k : ℕ) → k < a.num_assignments → get_or rows k 0 * w + get_or cols k 0 < length m
    in_matrix k l = in_run (get_or rows k 0) h (get_or cols k 0) w (length m)
        (subst (λ (x : List ℕ). get_or x k 0 < h) (sym r) (place.row_in k l))
        (subst (λ (x : List ℕ). get_or x k 0 < w) (sym c) (place.col_in k l)) long

    pub made : (total d : Float) → d ≡ sum_of m w rows cols a.num_assignments total
        → found record {
          pair_rows = rows;
          pair_cols = cols;
          left_rows = a.unmatched_rows;
          pairs = a.num_assignments;
          lefts = a.num_unmatched_rows;
          extra = a.num_unmatched_cols;
          distance = d;
        } ≡ paired_of m h w limit total
    unfolding paired_of
    made total d e =
        let f : d ≡ sum_of m w (rows_of a.assignments) (cols_of a.assignments) a.num_assignments total = e ∙ (λ i. sum_of m w (r i) (c i) a.num_assignments total) in
        (λ i. record {
          number = 0;
          pair_rows = r i;
          pair_cols = c i;
          left_rows = a.unmatched_rows;
          pairs = a.num_assignments;
          lefts = a.num_unmatched_rows;
          extra = a.num_unmatched_cols;
          distance = f i;
        }) ∙ ap (λ (x : AssignmentResult). pairs_in m w x total) is
