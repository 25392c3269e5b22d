-- An answer written out: the lists without the zeros behind them. Definitions only.
use Rattle.std.specs.Prelude.{ℕ, List, length, Float, pos, false}
use Rattle.std.specs.Float.{binary64, fin}
use Rattle.std.specs.Float.Ieee.{of_int}
use Rattle.square.specs.Index.{filled}
use Rattle.optimize.specs.declared.Assignment.{Assignment}
use Rattle.optimize.specs.declared.AssignmentResult.{AssignmentResult}
use Rattle.optimize.specs.Answer.{no_pair}

abbrev pub pair : ℕ → ℕ → Assignment
pair i j = record { row_idx = i; col_idx = j }

-- pairs, unmatched rows, unmatched columns, corrections, path changes
abbrev pub shown : List Assignment → List ℕ → List ℕ → ℕ → ℕ → AssignmentResult
shown pairs rows cols corrections paths = record {
  number = 0;
  assignments = filled no_pair pairs;
  num_assignments = length pairs;
  unmatched_rows = filled 0 rows;
  num_unmatched_rows = length rows;
  unmatched_cols = filled 0 cols;
  num_unmatched_cols = length cols;
  corrections = corrections;
  paths = paths;
}

-- a whole number, as a float
abbrev pub whole : ℕ → Float
whole n = of_int binary64 (pos n)

-- the whole number k times 2 to the e, which is how a float is kept
abbrev pub two : ℕ → ℕ → Float
two k e = fin false k (pos e)
