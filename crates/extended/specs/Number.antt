-- Document 01, "Numbers given back": the number of an update, from the table alone. 1 is for a state that isn't sound; 2, 3 and 4 are
-- the frame's; 5 and 7 are read off what a booking without any bound would come to.
use Rattle.std.specs.Prelude.{cond, List, ℕ, ◌+◌, ℤ, length, Float}
use Rattle.matrix.specs.Matrix.{or_no}
use Rattle.rows.specs.declared.ExtendedMOTAccumulator.{ExtendedMOTAccumulator}
use Rattle.frame.specs.Frame.{sound_state}
use Rattle.frame.specs.Unbounded.{Tally, final_no, final_tally}
use Rattle.pairing.specs.Pairing.{Pairing}
use Rattle.pairing.specs.Pairing.{pairing_no}
use Rattle.extended.specs.Update.{rows_in, pairing_in}

-- the slots and switches after the pairing's rows, without any bound
abbrev pub tally_in : ExtendedMOTAccumulator → List ℤ → List ℤ → Pairing → Tally
tally_in s gt_ids pred_ids p = final_tally s (rows_in gt_ids pred_ids p) (p.pairs + p.lefts)

-- 5, and then 7, of those final values
abbrev pub final_no_in : ExtendedMOTAccumulator → List ℤ → List ℤ → Pairing → ℕ
final_no_in s gt_ids pred_ids p = final_no s p.pairs p.lefts p.extra (length gt_ids) (tally_in s gt_ids pred_ids p)

-- THE NUMBER, lowest first
unfoldable pub update_no : ExtendedMOTAccumulator → List ℤ → List Float → List ℤ → List Float → Float → ℕ
update_no s gt_ids gt pred_ids pred threshold =
    cond (sound_state s)
    (or_no (pairing_no (length gt_ids) gt (length pred_ids) pred) (final_no_in s gt_ids pred_ids (pairing_in s gt_ids gt pred_ids pred threshold)))
    1
