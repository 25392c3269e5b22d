-- A sequence of frames, each an update of the state that the one before left.
use Rattle.std.specs.Prelude.{List, [], ◌∷◌, ◌≡◌, ℤ, Float}
use Rattle.rows.specs.declared.ExtendedMOTAccumulator.{ExtendedMOTAccumulator}
use Rattle.frame.specs.declared.Booked.{Booked}
use Rattle.extended.specs.Update.{update_of}

-- what one call is given
pub record Frame : Type 0 where
  pub gt_ids : List ℤ
  pub gt_boxes : List Float
  pub pred_ids : List ℤ
  pub pred_boxes : List Float
  pub threshold : Float

abbrev pub update_by : ExtendedMOTAccumulator → Frame → Booked
update_by s f = update_of s f.gt_ids f.gt_boxes f.pred_ids f.pred_boxes f.threshold

-- the state after all frames; a refused one leaves it as it was
unfoldable pub played_of : ExtendedMOTAccumulator → List Frame → ExtendedMOTAccumulator
played_of s [] = s
played_of s (f ∷ fs) = played_of (update_by s f).state fs

-- calls in a row: each answers as `update` promises, and its state goes into the next
pub data Played : ExtendedMOTAccumulator → List Frame → ExtendedMOTAccumulator → Type 0 where
  none : {s : ExtendedMOTAccumulator} → Played s [] s
  next : {s t : ExtendedMOTAccumulator} {f : Frame} {fs : List Frame} (b : Booked) → b ≡ update_by s f → Played b.state fs t → Played s (f ∷ fs) t
