-- The extended accumulator's totals as a tally of events, and its scores by the rules that modules 3 and 4 have for a log.
use Rattle.std.specs.Prelude.{Bool, cond, Option, None, Some, ◌&&◌, ◌+◌, ◌-◌, leb, nat_abs}
use Rattle.floats.specs.Float.{zero64}
use Rattle.events.specs.declared.Tally.{Tally}
use Rattle.scores.specs.Scores.{pairs_of, mean_of, precision_of, recall_of, mota_of, f1_of}
use Rattle.rows.specs.declared.ExtendedMOTAccumulator.{ExtendedMOTAccumulator}
use Rattle.summary.specs.declared.Scores.{Scores}

-- a match that is a switch counts in both totals, and in a tally as a switch alone. The sum of IoUs is not kept.
abbrev pub totals_of : ExtendedMOTAccumulator → Tally
totals_of s =
    record {
      matches = nat_abs s.num_matches - nat_abs s.num_switches;
      switches = nat_abs s.num_switches;
      misses = nat_abs s.num_misses;
      false_positives = nat_abs s.num_false_positives;
      truths = nat_abs s.num_objects;
      distance = s.total_distance;
      iou = zero64;
    }

-- no more events than a log has
unfoldable pub few_of : Tally → Bool
few_of t = leb (t.matches + t.switches + t.misses + t.false_positives) 1024 && leb t.truths 1024

-- MOTP is the mean distance
abbrev pub scores_for : Tally → Scores
scores_for t =
    record {
      mota = mota_of t;
      motp = mean_of t.distance (pairs_of t);
      precision = precision_of t;
      recall = recall_of t;
      f1 = f1_of (precision_of t) (recall_of t);
    }

-- of totals that are more than a log has there are none
abbrev pub scores_of : ExtendedMOTAccumulator → Option Scores
scores_of s = cond (few_of (totals_of s)) (Some (scores_for (totals_of s))) None
