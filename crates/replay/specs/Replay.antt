-- A frame handed to both accumulators: each by its own update, and kept only where neither refuses it.
use Rattle.std.specs.Prelude.{false, cond, List, ℕ, ◌-◌, eqb, ℤ, negsuc, nat_abs, Float}
use Rattle.std.specs.Float.{fin}
use Rattle.frame.specs.declared.Booked.{Booked}
use Rattle.rows.specs.declared.ExtendedMOTAccumulator.{ExtendedMOTAccumulator}
use Rattle.rows.specs.Rows as rows
use Rattle.metrics.specs.State as metrics
use Rattle.metrics_booking.specs.declared.Updated.{Updated}
use Rattle.extended.specs.Update as extended
use Rattle.metrics_update.specs.Update as update
use Rattle.replay.specs.declared.Both.{Both}
use Rattle.replay.specs.declared.Step.{Step}
use Rattle.summary.specs.declared.Row.{Row}

abbrev pub new_both : Both
new_both = record { extended = rows.new_state; metrics = metrics.new_state }

-- the threshold, 0.5: a distance of at most that, an IoU of at least that
abbrev pub half : Float
half = fin false 1 (negsuc 0)

-- what a frame added to each total; no accepted frame makes one smaller
unfoldable pub row_of : ExtendedMOTAccumulator → ExtendedMOTAccumulator → Row
row_of before after =
    record {
      matches = nat_abs after.num_matches - nat_abs before.num_matches;
      misses = nat_abs after.num_misses - nat_abs before.num_misses;
      false_positives = nat_abs after.num_false_positives - nat_abs before.num_false_positives;
      switches = nat_abs after.num_switches - nat_abs before.num_switches;
    }

abbrev pub no_row : Row
no_row = record { matches = 0; misses = 0; false_positives = 0; switches = 0 }

-- beside a refusal the states are those that came
abbrev pub refused_at : Both → ℕ → ℕ → Step
refused_at b extended_number metrics_number =
    record { extended_number = extended_number; metrics_number = metrics_number; row = no_row; both = b }

abbrev pub booked_by : Both → Booked → Updated → Step
booked_by b e m =
    record {
      extended_number = 0;
      metrics_number = 0;
      row = row_of b.extended e.state;
      both = record { extended = e.state; metrics = m.state };
    }

abbrev pub kept_where : Both → Booked → Updated → Step
kept_where b e m = cond (eqb e.number 0) (cond (eqb m.number 0) (booked_by b e m) (refused_at b 0 m.number)) (refused_at b e.number 0)

-- THE FRAME
unfoldable pub step_of : Both → ℤ → List ℤ → List Float → List ℤ → List Float → Step
step_of b frame truths gt ids boxes =
    kept_where b (extended.update_of b.extended truths gt ids boxes half) (update.update_of b.metrics frame truths ids gt boxes half)
