-- `trial::book_rows` meets its contract. The rows booked so far are the definition's, and the array of ids is that of the slots. Assumes nothing.
use mathlib.Core.Path.{◌≡◌}
use Prim.Native.Nat.{◌≤◌}
use lib.ListN.{length}
use Rattle.slots.specs.Slots.{ids_filled}
use Rattle.rows.specs.Rows.{row_at, trial_of, trial_after}
use Rattle.trial.proofs.book_rows.Given as goal

abbrev pub invariant-loop-k : goal.invariant-loop-k
invariant-loop-k l =
    (l.t.used ≤ 256) × (length l.t.slots ≡ 256) × (l.ids ≡ ids_filled l.t.slots l.t.used) × (l.switches ≤ l.k)
    × (trial_of l.t l.full l.over l.switches ≡ trial_after (row_at l.gt_ids l.pred_ids l.pair_rows l.pair_cols l.left_rows l.pairs) l.frame l.initial.t l.k)
