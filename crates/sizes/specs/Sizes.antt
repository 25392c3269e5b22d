-- Document 01, "Numbers given back": the lengths of a frame of ids and distances. And, which 01 does not have, the lengths of a state that is lent as runs of numbers. Definitions only.
use Rattle.std.specs.Prelude.{Bool, ◌&&◌, cond, ◌≡◌, ℕ, ◌*◌, eqb, ltb}

-- 2: more than 64 ids on a side. 3: the matrix isn't rows times columns long
unfoldable pub shape_no : ℕ → ℕ → ℕ → ℕ
shape_no rows columns size = cond (ltb 64 rows) 2 (cond (ltb 64 columns) 2 (cond (eqb size (rows * columns)) 0 3))

-- the log's four columns and its distances, 1,024 places each, and the table's three columns of 256
pub record Long (numbers distances table : ℕ) : Type 0 where
  pub four_columns : numbers ≡ 4096
  pub one_column : distances ≡ 1024
  pub three_columns : table ≡ 768

unfoldable pub log_and_table : ℕ → ℕ → ℕ → Bool
log_and_table numbers distances table = eqb numbers 4096 && (eqb distances 1024 && eqb table 768)

-- lent runs of another length are no state: 3, and the frame's 2 before it
unfoldable pub lengths_no : ℕ → ℕ
lengths_no shape = cond (eqb shape 2) 2 3
