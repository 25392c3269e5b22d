-- A frame of a scene, and its sides in memory that was lent.
use Rattle.std.specs.Prelude.{◌≡◌, List, ℕ, ◌*◌, ◌/◌, ◌%◌, ◌≤◌, ℤ, Float, length, take, get_or}
use Rattle.scenes.specs.declared.Scene.{Scene}
use Rattle.scenes.specs.declared.Scene.TheVariants.{Match, Incident, Flat}
use Rattle.scenes.specs.declared.Sizes.{Sizes}
use Rattle.scene_rows.specs.Digits.{size_of, Laid}
use Rattle.scenes.specs.Tables.{match_frames, match_truths, match_predictions, incident_frames, incident_truths, incident_predictions}
use Rattle.scenes.specs.Tables.{flat_frames, flat_truths, flat_predictions}

-- a scene's tables: its frames, its truth boxes and its predictions
abbrev pub frames_in : Scene → List ℕ
frames_in Match = match_frames
frames_in Incident = incident_frames
frames_in Flat = flat_frames

abbrev pub truths_in : Scene → List ℕ
truths_in Match = match_truths
truths_in Incident = incident_truths
truths_in Flat = flat_truths

abbrev pub predictions_in : Scene → List ℕ
predictions_in Match = match_predictions
predictions_in Incident = incident_predictions
predictions_in Flat = flat_predictions

-- a frame's digits: where its truth boxes begin and how many there are, then the same of its predictions
abbrev pub truths_from : ℕ → ℕ
truths_from digits = digits / 100000000

abbrev pub truth_count : ℕ → ℕ
truth_count digits = digits / 1000000 % 100

abbrev pub predictions_from : ℕ → ℕ
predictions_from digits = digits / 100 % 10000

abbrev pub prediction_count : ℕ → ℕ
prediction_count digits = digits % 100

abbrev pub sized : ℕ → ℕ → Sizes
sized n m = record { truths = n; truth_floats = n * 4; predictions = m; predicted_floats = m * 4 }

-- what a frame holds by its digits, of tables with so many rows
unfoldable pub sizes_of : List ℕ → ℕ → ℕ → ℕ → Sizes
sizes_of frames truths predictions number =
    let digits = get_or frames number 0 in
    sized (size_of truths (truths_from digits) (truth_count digits)) (size_of predictions (predictions_from digits) (prediction_count digits))

-- no more than a frame may have, and four floats a box
pub record Few (s : Sizes) : Type 0 where
  pub truths : s.truths ≤ 64
  pub predictions : s.predictions ≤ 64
  pub truth_floats : s.truth_floats ≡ s.truths * 4
  pub predicted_floats : s.predicted_floats ≡ s.predictions * 4

-- n ids, and four floats for each, stand at the start of two runs. The parts with take follow from the others; with them a
-- caller's slices need no proof file
pub record Lent (n floats : ℕ) (ids : List ℤ) (boxes : List Float) : Type 0 where
  pub most : n ≤ 64
  pub four : floats ≡ n * 4
  pub ids_there : (n ≤ length ids) × (n ≡ length (take n ids))
  pub boxes_there : (floats ≤ length boxes) × (floats ≡ length (take floats boxes))

-- a frame of three tables, in memory that was lent
pub record Shown (frames truths predictions : List ℕ) (number : ℕ) (r : Sizes) (truth_ids : List ℤ) (truth_boxes : List Float) (ids : List ℤ) (boxes : List Float) : Type 0 where
  pub sizes : r ≡ sizes_of frames (length truths) (length predictions) number
  pub truth_side : Laid truths (truths_from (get_or frames number 0)) r.truths truth_ids truth_boxes
  pub predicted_side : Laid predictions (predictions_from (get_or frames number 0)) r.predictions ids boxes
