-- The extended accumulator's state as lent numbers: nine columns of 256, seven counters, one distance; and its update.
use Rattle.std.specs.Prelude.{Bool, ◌&&◌, cond, List, [], ◌∷◌, ◌≡◌, ℕ, ◌+◌, ◌≤◌, eqb, ℤ, pos, nat_abs, length, get_or, Float}
use Rattle.std.specs.Int.Signed.{non_neg}
use Rattle.std.specs.Float.{nan}
use Rattle.sizes.specs.Sizes.{lengths_no}
use Rattle.shape.specs.Shape.{shape_no}
use Rattle.pairing.specs.Pairing.{Pairing}
use Rattle.rows.specs.declared.ExtendedMOTAccumulator.{ExtendedMOTAccumulator}
use Rattle.frame.specs.declared.Booked.{Booked}
use Rattle.totals.specs.declared.Totals.{Totals}
use Rattle.frame.specs.Frame.{totals_of}
use Rattle.extended.specs.Update.{refused_at, rows_in, pairing_in, update_of}
use Rattle.inplace.specs.declared.Closed.{Closed}
use Rattle.inplace.specs.InPlace.{state_of, table_at}

-- ---- the state
abbrev pub used_in : List ℤ → ℤ
used_in counters = get_or counters 0 (pos 0)

abbrev pub totals_in : List ℤ → List Float → Totals
totals_in counters distance =
    record {
      used = nat_abs (used_in counters);
      frame_id = get_or counters 1 (pos 0);
      num_matches = get_or counters 2 (pos 0);
      num_misses = get_or counters 3 (pos 0);
      num_false_positives = get_or counters 4 (pos 0);
      num_switches = get_or counters 5 (pos 0);
      num_objects = get_or counters 6 (pos 0);
      total_distance = get_or distance 0 nan;
    }

abbrev pub counters_of : Totals → List ℤ
counters_of t =
    pos t.used ∷ t.frame_id ∷ t.num_matches ∷ t.num_misses ∷ t.num_false_positives ∷ t.num_switches ∷ t.num_objects ∷ []

-- THE STATE that lent numbers stand for
abbrev pub state_in : List ℤ → List ℤ → List Float → ExtendedMOTAccumulator
state_in run counters distance = state_of run (totals_in counters distance)

-- ---- the lengths
unfoldable pub whole_of : ℕ → ℕ → ℕ → Bool
whole_of run counters distance = eqb run 2304 && (eqb counters 7 && eqb distance 1)

-- ---- the answer: a number, and the state; beside a refusal the one that came
-- a negative used count is a state that isn't sound
unfoldable pub answer_of : List ℤ → List ℤ → List Float → List ℤ → List Float → List ℤ → List Float → Float → Booked
answer_of run counters distance gt_ids gt pred_ids pred threshold =
    cond (whole_of (length run) (length counters) (length distance))
    (cond (non_neg (used_in counters)) (update_of (state_in run counters distance) gt_ids gt pred_ids pred threshold) (refused_at 1 (state_in run counters distance)))
    (refused_at (lengths_no (shape_no (length gt_ids) (length gt) (length pred_ids) (length pred))) (state_in run counters distance))

-- the run after a frame with a pairing: written at 0, number by number what it was beside a refusal
abbrev pub run_with : ℕ → List ℤ → Totals → List ℤ → List ℤ → Pairing → List ℤ
run_with number run totals gt_ids pred_ids p = table_at number (rows_in gt_ids pred_ids p) run totals (p.pairs + p.lefts)

-- the update of a table and its totals, refusal 1 with it
pub record Checked (run : List ℤ) (totals : Totals) (gt_ids : List ℤ) (gt : List Float) (pred_ids : List ℤ) (pred : List Float) (threshold : Float) (after : List ℤ) (r : Closed) : Type 0 where
  pub booked : record { number = r.number; state = state_of after r.totals } ≡ update_of (state_of run totals) gt_ids gt pred_ids pred threshold
  pub table : after ≡ run_with r.number run totals gt_ids pred_ids (pairing_in (state_of run totals) gt_ids gt pred_ids pred threshold)
  pub within : r.number ≡ 0 → r.totals.used ≤ 256

-- THE UPDATE: the number, the state that the numbers stand for afterwards, and every number itself
pub record Answered (run counters : List ℤ) (distance : List Float) (gt_ids : List ℤ) (gt : List Float) (pred_ids : List ℤ) (pred : List Float) (threshold : Float) (run' counters' : List ℤ) (distance' : List Float) (number : ℕ) : Type 0 where
  pub number_is : number ≡ (answer_of run counters distance gt_ids gt pred_ids pred threshold).number
  pub state_is : state_in run' counters' distance' ≡ (answer_of run counters distance gt_ids gt pred_ids pred threshold).state
  pub run_is : run' ≡ run_with number run (totals_in counters distance) gt_ids pred_ids (pairing_in (state_in run counters distance) gt_ids gt pred_ids pred threshold)
  pub counters_are : counters' ≡ cond (eqb number 0) (counters_of (totals_of (answer_of run counters distance gt_ids gt pred_ids pred threshold).state)) counters
  pub distance_is : distance' ≡ cond (eqb number 0) ((answer_of run counters distance gt_ids gt pred_ids pred threshold).state.total_distance ∷ []) distance
