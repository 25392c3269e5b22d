-- Document 01, "Lifecycles and events" and "Numbers given back": a frame of the extended accumulator whose pairing is there, booked in any state.
use Rattle.std.specs.Prelude.{List, ℕ, ◌≤◌, ℤ, length}
use Rattle.rows.specs.declared.ExtendedMOTAccumulator.{ExtendedMOTAccumulator}
use Rattle.rows.specs.declared.Row.{Row}
use Rattle.rows.specs.Rows.{Lies, row_at}
use Rattle.frame.specs.declared.Booked.{Booked}
use Rattle.frame.specs.Frame.{frame_of}
use Rattle.pairing.specs.Pairing.{Pairing}

-- beside a refusal the state is the one that came
abbrev pub refused_at : ℕ → ExtendedMOTAccumulator → Booked
refused_at number s = record { number = number; state = s }

-- what the booking asks of a pairing
pub record Lie (gi pi : ℕ) (p : Pairing) : Type 0 where
  pub lists : Lies gi pi p.pair_rows p.pair_cols p.left_rows p.pairs p.lefts
  pub few_truths : gi ≤ 64
  pub few_extra : p.extra ≤ 64

-- the rows of a pairing, matched before missed
abbrev pub rows_in : List ℤ → List ℤ → Pairing → ℕ → Row
rows_in gt_ids pred_ids p = row_at gt_ids pred_ids p.pair_rows p.pair_cols p.left_rows p.pairs

-- a pairing, booked: the number is 5, 7 or 0
abbrev pub booked_with : ExtendedMOTAccumulator → List ℤ → List ℤ → Pairing → Booked
booked_with s gt_ids pred_ids p = frame_of s (rows_in gt_ids pred_ids p) p.pairs p.lefts p.extra (length gt_ids) p.distance
