-- The extended accumulator's update over a run of numbers and its totals.
use Rattle.std.specs.Prelude.{List, ◌≡◌, ◌+◌, ℤ, Float}
use Rattle.pairing.specs.Pairing.{Pairing}
use Rattle.extended.specs.Update.{rows_in, pairing_in, frame_after}
use Rattle.totals.specs.declared.Totals.{Totals}
use Rattle.inplace.specs.declared.Closed.{Closed}
use Rattle.inplace.specs.InPlace.{state_of, table_at}

-- the run after a frame with a pairing
abbrev pub table_with : Closed → List ℤ → Totals → List ℤ → List ℤ → Pairing → List ℤ
table_with r run totals gt_ids pred_ids p = table_at r.number (rows_in gt_ids pred_ids p) run totals (p.pairs + p.lefts)

-- THE UPDATE: the number and the state of `frame_after`; every number of the run, and beside a refusal those that came
pub record Updated (run : List ℤ) (totals : Totals) (gt_ids : List ℤ) (gt : List Float) (pred_ids : List ℤ) (pred : List Float) (threshold : Float) (after : List ℤ) (r : Closed) : Type 0 where
  pub booked : record { number = r.number; state = state_of after r.totals } ≡ frame_after (state_of run totals) gt_ids gt pred_ids pred threshold
  pub table : after ≡ table_with r run totals gt_ids pred_ids (pairing_in (state_of run totals) gt_ids gt pred_ids pred threshold)
