-- `solver_flat::write_found` meets its contract, list by list. Assumes nothing.
use mathlib.Core.Path.{refl}
use native.Mathlib.Omega.{arith}
use Rattle.solver_flat.proofs.Pasting.{clear_at}
use Rattle.solver_flat.proofs.Turns.{rows_clear, cols_clear, found_written}
use Rattle.solver_flat.proofs.write_found.Goals as goal

pub keep_pairs_at-pairs-requires : goal.keep_pairs_at-pairs-requires
keep_pairs_at-pairs-requires c =
    let z = c.clear_lists.ensures in
    (c.requires.0, c.requires.1, c.requires.2, refl, refl, omega (arith, z.same_len), clear_at z c.requires.3 0 (omega arith), clear_at z c.requires.3 64 (omega arith))

pub list_unmarked_at-rows_left-requires : goal.list_unmarked_at-rows_left-requires
list_unmarked_at-rows_left-requires c =
    let r = rows_clear c.requires.3 c.clear_lists.ensures c.keep_pairs_at-pairs.ensures in
    (c.requires.0, r.0, r.1)

pub list_unmarked_at-cols_left-requires : goal.list_unmarked_at-cols_left-requires
list_unmarked_at-cols_left-requires c =
    let r = cols_clear c.requires.3 c.clear_lists.ensures c.keep_pairs_at-pairs.ensures c.list_unmarked_at-rows_left.ensures in
    (c.requires.1, r.0, r.1)

pub returns : goal.returns
returns c =
    found_written c.requires.3 c.clear_lists.ensures c.hungarian_algorithm-found.ensures c.keep_pairs_at-pairs.ensures c.list_unmarked_at-rows_left.ensures
    c.list_unmarked_at-cols_left.ensures c.write_counts.ensures
