-- A scene's frames handed to both accumulators in a row, up to the first that is refused.
use Rattle.std.specs.Prelude.{◌≡◌, Bool, true, false, cond, ℕ, zero, suc, ◌+◌, eqb, pos, length, get_or}
use Rattle.scenes.specs.declared.Scene.{Scene}
use Rattle.scenes.specs.declared.Sizes.{Sizes}
use Rattle.scene_rows.specs.Digits.{ids_of, boxes_of}
use Rattle.scenes.specs.Frames.{frames_in, truths_in, predictions_in, truths_from, predictions_from, sizes_of}
use Rattle.replay.specs.declared.Both.{Both}
use Rattle.replay.specs.declared.Step.{Step}
use Rattle.replay.specs.Replay.{new_both, step_of}

abbrev pub step_at : Scene → ℕ → Both → ℕ → Sizes → Step
step_at scene number b digits sizes =
    step_of b (pos (number + 1)) (ids_of (truths_in scene) (truths_from digits) sizes.truths)
    (boxes_of (truths_in scene) (truths_from digits) sizes.truths)
    (ids_of (predictions_in scene) (predictions_from digits) sizes.predictions)
    (boxes_of (predictions_in scene) (predictions_from digits) sizes.predictions)

-- the scene's frame of this number, from 0: the accumulators count from 1
unfoldable pub scene_step : Scene → ℕ → Both → Step
scene_step scene number b =
    step_at scene number b (get_or (frames_in scene) number 0) (sizes_of (frames_in scene) (length (truths_in scene)) (length (predictions_in scene)) number)

-- whether one of the two refuses a frame
abbrev pub refuses : Step → Bool
refuses s = cond (eqb s.extended_number 0) (cond (eqb s.metrics_number 0) false true) true

-- where a run stands
pub record Run : Type 0 where
  pub both : Both
  pub over : Bool

abbrev pub run_after : Step → Run
run_after s = record { both = s.both; over = refuses s }

-- after the first k frames; a refusal ends the run
unfoldable pub played_of : Scene → ℕ → Run
played_of scene zero = record { both = new_both; over = false }
played_of scene (suc k) = cond (played_of scene k).over (played_of scene k) (run_after (scene_step scene k (played_of scene k).both))

-- a run's states and its end, of a value that has a writer too
pub record Stands (b : Both) (over : Bool) (r : Run) : Type 0 where
  pub states : b ≡ r.both
  pub ends : over ≡ r.over
