-- Document 01, "Lifecycles and events" and refusal 1: module 5's metrics of any state of module 4.
use Rattle.std.specs.Prelude.{cond, ℕ}
use Rattle.floats.specs.Float.{zero64}
use Rattle.events.specs.declared.Tally.{Tally}
use Rattle.events.specs.Events.{logged, tally_of}
use Rattle.scores.specs.Scores.{precision_of, recall_of, mota_of, f1_of}
use Rattle.metrics.specs.declared.MOTAccumulator.{MOTAccumulator}
use Rattle.metrics.specs.State.{sound_state}
use Rattle.metrics.specs.Counts.{iou_mean}
use Rattle.evaluation.specs.declared.MOTMetrics.{MOTMetrics}
use Rattle.evaluation.specs.declared.Evaluated.{Evaluated}

-- "idf1 is 2.0 * p * r / (p + r)"; "fields the Rust leaves 0 stay 0"
unfoldable pub metrics_of : Tally → ℕ → ℕ → MOTMetrics
metrics_of t gt_ids hyp_ids =
    record {
      mota = mota_of t;
      motp = iou_mean t;
      idf1 = f1_of (precision_of t) (recall_of t);
      precision = precision_of t;
      recall = recall_of t;
      num_false_positives = t.false_positives;
      num_misses = t.misses;
      num_switches = t.switches;
      num_gt_ids = gt_ids;
      num_hyp_ids = hyp_ids;
      mostly_tracked = 0;
      mostly_lost = 0;
      num_fragmentations = 0;
    }

-- beside a refusal every other result is 0
abbrev pub no_metrics : MOTMetrics
no_metrics =
    record {
      mota = zero64;
      motp = zero64;
      idf1 = zero64;
      precision = zero64;
      recall = zero64;
      num_false_positives = 0;
      num_misses = 0;
      num_switches = 0;
      num_gt_ids = 0;
      num_hyp_ids = 0;
      mostly_tracked = 0;
      mostly_lost = 0;
      num_fragmentations = 0;
    }

-- THE METRICS of any state
unfoldable pub evaluated_of : MOTAccumulator → Evaluated
evaluated_of s =
    cond (sound_state s) (record { number = 0; metrics = metrics_of (tally_of (logged s.log)) s.truths.used s.hypotheses.used })
    (record { number = 1; metrics = no_metrics })
