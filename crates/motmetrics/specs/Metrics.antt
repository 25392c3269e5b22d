-- Document 01, "Lifecycles and events" and refusal 1: module 3's metrics of any state.
use Rattle.std.specs.Prelude.{cond, pos}
use Rattle.floats.specs.Float.{zero64}
use Rattle.events.specs.declared.Tally.{Tally}
use Rattle.events.specs.Events.{logged, tally_of}
use Rattle.scores.specs.Scores.{pairs_of, mean_of, precision_of, recall_of, mota_of}
use Rattle.motmetrics.specs.declared.MOTAccumulator.{MOTAccumulator}
use Rattle.motmetrics.specs.declared.MOTMetrics.{MOTMetrics}
use Rattle.motmetrics.specs.declared.Computed.{Computed}
use Rattle.motmetrics.specs.State.{sound_state}

-- "matches include switches; motp is distance sum / matches"; "fields the Rust leaves 0 stay 0"
unfoldable pub metrics_of : Tally → MOTMetrics
metrics_of t =
    record {
      num_matches = pos (pairs_of t);
      num_misses = pos t.misses;
      num_false_positives = pos t.false_positives;
      num_switches = pos t.switches;
      num_fragmentations = pos 0;
      total_distance = t.distance;
      mota = mota_of t;
      motp = mean_of t.distance (pairs_of t);
      precision = precision_of t;
      recall = recall_of t;
      mostly_tracked = pos 0;
      mostly_lost = pos 0;
      partially_tracked = pos 0;
    }

-- beside a refusal every other result is 0
abbrev pub no_metrics : MOTMetrics
no_metrics =
    record {
      num_matches = pos 0;
      num_misses = pos 0;
      num_false_positives = pos 0;
      num_switches = pos 0;
      num_fragmentations = pos 0;
      total_distance = zero64;
      mota = zero64;
      motp = zero64;
      precision = zero64;
      recall = zero64;
      mostly_tracked = pos 0;
      mostly_lost = pos 0;
      partially_tracked = pos 0;
    }

-- THE METRICS of any state
unfoldable pub computed_of : MOTAccumulator → Computed
computed_of s =
    cond (sound_state s) (record { number = 0; metrics = metrics_of (tally_of (logged s.log)) }) (record { number = 1; metrics = no_metrics })
