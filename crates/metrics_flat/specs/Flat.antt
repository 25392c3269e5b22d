-- Module 4's MOTAccumulator as lent numbers: the log's four columns of 1,024 and its 1,024 distances, the truth table's three columns of
-- 256, 1,024 hypothesis ids, and three used counts; and its update.
use Rattle.std.specs.Prelude.{Bool, ◌&&◌, cond, List, [], ◌∷◌, ◌≡◌, ℕ, eqb, ℤ, length, get_or, Float}
use Rattle.sizes.specs.Sizes.{log_and_table, lengths_no}
use Rattle.shape.specs.Shape.{shape_no}
use Rattle.metrics.specs.declared.MOTAccumulator.{MOTAccumulator}
use Rattle.metrics_booking.specs.declared.Updated.{Updated}
use Rattle.metrics_update.specs.Update.{refused_at, update_of}
use Rattle.metrics_in_place.specs.declared.Used.{Used}
use Rattle.metrics_in_place.specs.declared.Closed.{Closed}
use Rattle.metrics_in_place.specs.InPlace.{Runs, state_of, runs_after, runs_at}

-- ---- the state
-- how many events are logged, and how many truth ids and hypothesis ids were seen
abbrev pub used_in : List ℕ → Used
used_in used = record { events = get_or used 0 0; truths = get_or used 1 0; hypotheses = get_or used 2 0 }

-- THE STATE that lent numbers stand for
abbrev pub state_in : Runs → List ℕ → MOTAccumulator
state_in x used = state_of x (used_in used)

-- ---- the lengths
unfoldable pub whole_of : ℕ → ℕ → ℕ → ℕ → ℕ → Bool
whole_of numbers distances table hypotheses used = log_and_table numbers distances table && (eqb hypotheses 1024 && eqb used 3)

-- ---- the answer: a number, and the state; beside a refusal the one that came
unfoldable pub answer_of : Runs → List ℕ → ℤ → List ℤ → List ℤ → List Float → List Float → Float → Updated
answer_of x used frame truths hypotheses gt hyp threshold =
    cond (whole_of (length x.numbers) (length x.distances) (length x.table) (length x.hypotheses) (length used))
    (update_of (state_in x used) frame truths hypotheses gt hyp threshold)
    (refused_at (lengths_no (shape_no (length truths) (length gt) (length hypotheses) (length hyp))) (state_in x used))

-- every number of the runs afterwards: written at 0, what it was beside a refusal
abbrev pub runs_with : ℕ → Runs → Used → ℤ → List ℤ → List ℤ → List Float → List Float → Float → Runs
runs_with number x used frame truths hypotheses gt hyp threshold = runs_at number (runs_after x used frame truths hypotheses gt hyp threshold) x

-- the update of runs and used counts, refusal 1 with it
pub record Checked (x : Runs) (used : Used) (frame : ℤ) (truths hypotheses : List ℤ) (gt hyp : List Float) (threshold : Float) (y : Runs) (r : Closed) : Type 0 where
  pub booked : record { number = r.number; state = state_of y r.used } ≡ update_of (state_of x used) frame truths hypotheses gt hyp threshold
  pub written : y ≡ runs_with r.number x used frame truths hypotheses gt hyp threshold

abbrev pub counts_of : MOTAccumulator → List ℕ
counts_of s = s.log.used ∷ s.truths.used ∷ s.hypotheses.used ∷ []

-- THE UPDATE: the number, the state that the numbers stand for afterwards, and every number itself
pub record Answered (x : Runs) (used : List ℕ) (frame : ℤ) (truths hypotheses : List ℤ) (gt hyp : List Float) (threshold : Float) (y : Runs) (used' : List ℕ) (number : ℕ) : Type 0 where
  pub number_is : number ≡ (answer_of x used frame truths hypotheses gt hyp threshold).number
  pub state_is : state_in y used' ≡ (answer_of x used frame truths hypotheses gt hyp threshold).state
  pub runs_are : y ≡ runs_with number x (used_in used) frame truths hypotheses gt hyp threshold
  pub used_are : used' ≡ cond (eqb number 0) (counts_of (answer_of x used frame truths hypotheses gt hyp threshold).state) used
