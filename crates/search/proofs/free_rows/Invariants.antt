-- `search::free_rows` meets its contract. Assumes nothing.
use Rattle.std.proofs.Common.{◌≡◌, length}
use Rattle.search.proofs.FreeRows.{Marks}
use Rattle.search.proofs.free_rows.Given as goal

abbrev pub invariant-loop-row : goal.invariant-loop-row
invariant-loop-row l = (length l.free ≡ 64) × Marks l.n l.rows l.free l.row
