-- Document 01, "Lifecycles and events" and refusals 2, 3 and 4: how a frame's truth boxes are paired with its predictions.
use Rattle.std.specs.Prelude.{cond, List, map, ℕ, zero, suc, eqb, length, get_or, replicate, Float, Result, Ok, Err}
use Rattle.std.specs.Float.Ieee.{add}
use Rattle.std.specs.Float.{binary64}
use Rattle.floats.specs.Float.{zero64}
use Rattle.matrix.specs.Matrix.{matrix_of, any_read_bad, or_no}
use Rattle.matrix.specs.declared.Measure.TheVariants.{Away}
use Rattle.shape.specs.Shape.{shape_no}
use Rattle.start.specs.Steps.{entry}
use Rattle.optimize.specs.declared.Assignment.{Assignment}
use Rattle.optimize.specs.declared.AssignmentResult.{AssignmentResult}
use Rattle.solver.specs.Solution.{solution_of}
use Rattle.refusals.specs.Refusals.{number_of}
use Rattle.refusals.specs.declared.Refusal.{Refusal}
use Rattle.pairing.specs.declared.Pairing.{Pairing as Paired}

-- a refusal's number, or 0, and the pairing: the pairs by row and column, the rows left, the predictions that are extra, the total
pub record Pairing : Type 0 where
  pub number : ℕ
  pub pair_rows : List ℕ
  pub pair_cols : List ℕ
  pub left_rows : List ℕ
  pub pairs : ℕ
  pub lefts : ℕ
  pub extra : ℕ
  pub distance : Float

-- ---- the numbers 2 and 3 by the shape, then 4
-- 4: a bad box, where both sides have one
unfoldable pub pairing_no : ℕ → List Float → ℕ → List Float → ℕ
pairing_no gt_ids gt pred_ids pred = or_no (shape_no gt_ids (length gt) pred_ids (length pred)) (cond (any_read_bad gt pred) 4 0)

-- ---- the pairs
abbrev pub rows_of : List Assignment → List ℕ
rows_of pairs = map (λ (a : Assignment). a.row_idx) pairs

abbrev pub cols_of : List Assignment → List ℕ
cols_of pairs = map (λ (a : Assignment). a.col_idx) pairs

-- "distances are summed in the order of the pairs": the first k, one by one on the total so far
unfoldable pub sum_of : List Float → ℕ → List ℕ → List ℕ → ℕ → Float → Float
sum_of m w rows cols zero total = total
sum_of m w rows cols (suc k) total = add binary64 (sum_of m w rows cols k total) (entry m w (get_or rows k 0) (get_or cols k 0))

-- the solver's lists, and the total with their distances
abbrev pub pairs_in : List Float → ℕ → AssignmentResult → Float → Pairing
pairs_in m w a total =
    record {
      number = 0;
      pair_rows = rows_of a.assignments;
      pair_cols = cols_of a.assignments;
      left_rows = a.unmatched_rows;
      pairs = a.num_assignments;
      lefts = a.num_unmatched_rows;
      extra = a.num_unmatched_cols;
      distance = sum_of m w (rows_of a.assignments) (cols_of a.assignments) a.num_assignments total;
    }

unfoldable pub paired_of : List Float → ℕ → ℕ → Float → Float → Pairing
paired_of m h w limit total = pairs_in m w (solution_of m h w limit) total

-- a number, the predictions that are extra, and a total; no pair, and no row left
unfoldable pub no_pairs : ℕ → ℕ → Float → Pairing
no_pairs number extra total =
    record {
      number = number;
      pair_rows = replicate 64 0;
      pair_cols = replicate 64 0;
      left_rows = replicate 64 0;
      pairs = 0;
      lefts = 0;
      extra = extra;
      distance = total;
    }

-- "No truth: predictions are false positives. [..] Otherwise the distance matrix and the search". That no predictions leave
-- all truth missed is the solver's own case of no columns (`all_missed`).
unfoldable pub frame_pairs : ℕ → List Float → ℕ → List Float → Float → Float → Pairing
frame_pairs h gt w pred limit total = cond (eqb h 0) (no_pairs 0 w total) (paired_of (matrix_of Away gt pred h) h w limit total)

-- beside a refusal every other result is 0
abbrev pub pairing_at : ℕ → Pairing → Pairing
pairing_at zero p = p
pairing_at (suc number) p = no_pairs (suc number) 0 zero64

-- THE PAIRING of a frame
unfoldable pub pairing_of : ℕ → List Float → ℕ → List Float → Float → Float → Pairing
pairing_of gt_ids gt pred_ids pred limit total =
    pairing_at (pairing_no gt_ids gt pred_ids pred) (frame_pairs gt_ids gt pred_ids pred limit total)

-- ---- what a call gives, as a pairing: the number 0 with what it found, or a refusal's number with zeros
abbrev pub found : Paired → Pairing
found p =
    record {
      number = 0;
      pair_rows = p.pair_rows;
      pair_cols = p.pair_cols;
      left_rows = p.left_rows;
      pairs = p.pairs;
      lefts = p.lefts;
      extra = p.extra;
      distance = p.distance;
    }

abbrev pub answered : Result Paired Refusal → Pairing
answered (Ok p) = found p
answered (Err r) = no_pairs (number_of r) 0 zero64
