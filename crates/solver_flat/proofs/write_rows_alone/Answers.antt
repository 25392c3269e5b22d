-- `solver_flat::write_rows_alone` meets its contract: no mark, so every row is left. Assumes nothing.
use native.Mathlib.Omega.{arith}
use Rattle.solver_flat.proofs.Pasting.{clear_at}
use Rattle.solver_flat.proofs.Turns.{alone_written}
use Rattle.solver_flat.proofs.write_rows_alone.Goals as goal

pub list_unmarked_at-left-requires : goal.list_unmarked_at-left-requires
list_unmarked_at-left-requires c =
    let z = c.clear_lists.ensures in
    (c.requires.0, omega (arith, z.same_len, c.requires.1), clear_at z c.requires.1 128 (omega arith))

pub returns : goal.returns
returns c =
    alone_written c.requires.1 c.clear_lists.ensures c.list_unmarked_at-left.ensures c.write_counts.ensures
