-- The solver's answer: document 01's number, what the search found within max_cost, and the two counts. h rows, w columns; m is the matrix, a run, row after row.
-- The encoding adds: a list stands in 64 places with a count of those used, zeros behind it; a column of w or more is no real one. Definitions only.
use Rattle.std.specs.Prelude.{ℕ, ◌*◌, ◌<◌, ◌≡◌, Bool, true, not, cond, ◌&&◌, ◌||◌, List, length, get_or, replicate, ltb, eqb, Float}
use Rattle.std.specs.Float.Ieee.{le}
use Rattle.square.specs.Index.{count, any, gather, filled}
use Rattle.start.specs.Steps.{entry}
pub use Rattle.hungarian.specs.Solved.{Solved}
use Rattle.optimize.specs.declared.Assignment.{Assignment}
use Rattle.optimize.specs.declared.AssignmentResult.{AssignmentResult}

-- the number, lowest first: 2, more than 64 rows or columns; 3, 0 rows with columns; 3, not rows times columns long. Sizes are tested before they are multiplied.
unfoldable pub assignment_no : ℕ → ℕ → ℕ → ℕ
assignment_no len h w = cond (ltb 64 h || ltb 64 w) 2 (cond (eqb h 0 && ltb 0 w) 3 (cond (eqb len (h * w)) 0 3))

-- "real pairs with cost <= max_cost, cost read from the matrix as given": NaN never passes
unfoldable pub passes_of : List Float → ℕ → Float → ℕ → ℕ → Bool
passes_of m w limit i j = ltb j w && le (entry m w i j) limit

-- row i is in such a pair; column j is in one
abbrev pub keeps : List Float → ℕ → Float → List ℕ → ℕ → Bool
keeps m w limit rows i = passes_of m w limit i (get_or rows i 0)

abbrev pub taken : List Float → ℕ → Float → List ℕ → ℕ → ℕ → Bool
taken m w limit rows h j = any h (λ i. keeps m w limit rows i && eqb (get_or rows i 0) j)

abbrev pub pair_of : List ℕ → ℕ → Assignment
pair_of rows i = record { row_idx = i; col_idx = get_or rows i 0 }

abbrev pub no_pair : Assignment
no_pair = record { row_idx = 0; col_idx = 0 }

-- the pairs by rising row, the rows and the columns in none, rising
unfoldable pub result_of : List Float → ℕ → ℕ → Float → List ℕ → ℕ → ℕ → AssignmentResult
result_of m h w limit rows corrections paths = record {
  number = 0;
  assignments = filled no_pair (gather h (keeps m w limit rows) (pair_of rows));
  num_assignments = count h (keeps m w limit rows);
  unmatched_rows = filled 0 (gather h (λ i. not (keeps m w limit rows i)) (λ i. i));
  num_unmatched_rows = count h (λ i. not (keeps m w limit rows i));
  unmatched_cols = filled 0 (gather w (λ j. not (taken m w limit rows h j)) (λ j. j));
  num_unmatched_cols = count w (λ j. not (taken m w limit rows h j));
  corrections = corrections;
  paths = paths;
}

-- a number, with zeros everywhere else
unfoldable pub empty_of : ℕ → AssignmentResult
empty_of number = record {
  number = number;
  assignments = replicate 64 no_pair;
  num_assignments = 0;
  unmatched_rows = replicate 64 0;
  num_unmatched_rows = 0;
  unmatched_cols = replicate 64 0;
  num_unmatched_cols = 0;
  corrections = 0;
  paths = 0;
}

-- every row unmatched, no column listed
unfoldable pub rows_alone : ℕ → AssignmentResult
rows_alone h = record {
  number = 0;
  assignments = replicate 64 no_pair;
  num_assignments = 0;
  unmatched_rows = filled 0 (gather h (λ _. true) (λ i. i));
  num_unmatched_rows = h;
  unmatched_cols = replicate 64 0;
  num_unmatched_cols = 0;
  corrections = 0;
  paths = 0;
}

-- THE CALL
pub data Answered (m : List Float) (h w : ℕ) (limit : Float) : AssignmentResult → Type 0 where
  refused : (assignment_no (length m) h w ≡ 0 → ⊥) → Answered m h w limit (empty_of (assignment_no (length m) h w))
  -- "No rows: all lists empty"
  no_rows : assignment_no (length m) h w ≡ 0 → h ≡ 0 → Answered m h w limit (empty_of 0)
  -- "Rows but no columns: every row unmatched, no column listed"
  no_columns : assignment_no (length m) h w ≡ 0 → 0 < h → w ≡ 0 → Answered m h w limit (rows_alone h)
  found : {corrections paths : ℕ} {rows : List ℕ} → assignment_no (length m) h w ≡ 0 → 0 < h → 0 < w → Solved m h w corrections paths rows
      → Answered m h w limit (result_of m h w limit rows corrections paths)
