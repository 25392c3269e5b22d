-- What an example gives and what it says, over all modules: a question and an answer are sums of the modules' own, and `answer_of` puts a
-- question to the definitions that the public calls promise. Definitions only.
use Rattle.std.specs.Prelude.{ℕ, List, [], ◌∷◌, ℤ, Float, Result}
use Rattle.boxes.specs.declared.Box.{Box}
use Rattle.refusals.specs.declared.Refusal.{Refusal}
use Rattle.iou.specs.Boxes.{iou_distance_of}
use Rattle.optimize.specs.declared.AssignmentResult.{AssignmentResult}
use Rattle.solver.specs.Solution.{solution_of}
use Rattle.lifecycle.specs.declared.TrackLifecycle.{TrackLifecycle}
use Rattle.lifecycle_parts.specs.declared.Class.{Class}
use Rattle.lifecycle.specs.Lifecycle.{update_matched_of, update_missed_of, coverage_of, class_of}
use Rattle.rows.specs.declared.ExtendedMOTAccumulator.{ExtendedMOTAccumulator}
use Rattle.rows.specs.Rows as rows
use Rattle.extended.specs.Play.{Frame, update_by, played_of}
use Rattle.events.specs.declared.Event.{Event}
use Rattle.events.specs.Events.{logged}
use Rattle.motmetrics.specs.State as module3
use Rattle.motmetrics_update.specs.Update as update3
use Rattle.metrics.specs.declared.MOTAccumulator.{MOTAccumulator}
use Rattle.metrics.specs.State as module4
use Rattle.metrics_update.specs.Update as update4
use Rattle.evaluation.specs.Evaluation.{evaluated_of}

pub data Question : Type 0 where
  -- module 1: the distance of two boxes
  boxes : Box → Box → Question
  -- module 2: a matrix of so many rows and columns, and max_cost
  matrix : List Float → ℕ → ℕ → Float → Question
  -- a lifecycle, missed in one frame and then matched in another
  missed_matched : TrackLifecycle → ℤ → ℤ → Question
  -- a lifecycle's class
  covered : TrackLifecycle → Question
  -- the extended accumulator: frames, one after the other, from a new state
  frames : List Frame → Question
  -- module 3: a frame number, the ids of both sides and the distances, to a new state
  distances : ℤ → List ℤ → List ℤ → List Float → Question
  -- module 4: a frame number, the ids and the boxes of both sides, and the threshold, to a new state
  scene : ℤ → List ℤ → List ℤ → List Float → List Float → Float → Question

-- numbers first
pub data Answer : Type 0 where
  distance : Result Float Refusal → Answer
  assigned : AssignmentResult → Answer
  -- both updates' numbers, the fragmentations
  broken : ℕ → ℕ → ℤ → Answer
  class : ℕ → Class → Answer
  -- each frame's number, the switches after all
  switched : List ℕ → ℤ → Answer
  -- the whole log
  logs : ℕ → List Event → Answer
  -- the whole log; the number of the metrics, MOTA, recall
  scored : ℕ → List Event → ℕ → Float → Float → Answer

-- the numbers of frames, one after the other
unfoldable pub numbers_of : ExtendedMOTAccumulator → List Frame → List ℕ
numbers_of s [] = []
numbers_of s (f ∷ fs) = (update_by s f).number ∷ numbers_of (update_by s f).state fs

-- module 4's log and metrics
abbrev pub scored_at : ℕ → MOTAccumulator → Answer
scored_at number s = scored number (logged s.log) (evaluated_of s).number (evaluated_of s).metrics.mota (evaluated_of s).metrics.recall

-- WHAT THE DEFINITIONS SAY
abbrev pub answer_of : Question → Answer
answer_of (boxes a b) = distance (iou_distance_of a b)
answer_of (matrix m rows cols limit) = assigned (solution_of m rows cols limit)
answer_of (missed_matched t f g) =
    broken (update_missed_of t f).number (update_matched_of (update_missed_of t f).lifecycle g).number
    (update_matched_of (update_missed_of t f).lifecycle g).lifecycle.fragmentations
answer_of (covered t) = class (coverage_of t).number (class_of (coverage_of t).value)
answer_of (frames fs) = switched (numbers_of rows.new_state fs) (played_of rows.new_state fs).num_switches
answer_of (distances frame objects hypotheses m) =
    logs (update3.update_of module3.new_state frame objects hypotheses m).number
    (logged (update3.update_of module3.new_state frame objects hypotheses m).state.log)
answer_of (scene frame truths predictions gt pred threshold) =
    scored_at (update4.update_of module4.new_state frame truths predictions gt pred threshold).number
    (update4.update_of module4.new_state frame truths predictions gt pred threshold).state
