-- `inplace::book_rows` meets its contract. The table is that of the rows booked so far, and the log has what stood at their places. Assumes nothing.
use mathlib.Core.Path.{◌≡◌}
use Prim.Native.Nat.{◌≤◌}
use lib.ListN.{length}
use Rattle.rows.specs.Rows.{row_at, trial_of, trial_after}
use Rattle.inplace.specs.InPlace.{state_of, table_after, Logged}
use Rattle.inplace.proofs.book_rows.Given as goal

abbrev pub invariant-loop-k : goal.invariant-loop-k
invariant-loop-k l =
    let rows = row_at l.gt_ids l.pred_ids l.pair_rows l.pair_cols l.left_rows l.pairs in
    (l.t.used ≤ 256) × (length l.run ≡ 2304) × (length l.places ≡ 64) × (length l.log ≡ 576) × (l.switches ≤ l.k)
    × (l.run ≡ table_after rows l.frame l.initial.run l.initial.t l.k)
    × (trial_of (state_of l.run l.t) l.full l.over l.switches ≡ trial_after rows l.frame (state_of l.initial.run l.initial.t) l.k)
    × Logged rows l.frame l.initial.run l.initial.t l.places l.log l.k
