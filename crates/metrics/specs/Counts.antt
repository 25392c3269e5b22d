-- Document 01, "Lifecycles and events" and refusal 1: module 4's counts and scores of any state.
use Rattle.std.specs.Prelude.{Bool, cond, ℕ, Float}
use Rattle.floats.specs.Float.{zero64}
use Rattle.events.specs.declared.Tally.{Tally}
use Rattle.events.specs.Events.{logged, tally_of}
use Rattle.scores.specs.Scores.{pairs_of, mean_of}
use Rattle.metrics.specs.declared.MOTAccumulator.{MOTAccumulator}
use Rattle.metrics.specs.declared.EventType.{EventType}
use Rattle.metrics.specs.declared.EventType.TheVariants.{Match, FalsePositive, Miss, Switch}
use Rattle.metrics.specs.declared.Count.{Count}
use Rattle.metrics.specs.declared.Score.{Score}
use Rattle.metrics.specs.State.{sound_state}

-- "Module 4's num_matches excludes them": each type by itself
abbrev pub count_for : EventType → Tally → ℕ
count_for Match t = t.matches
count_for FalsePositive t = t.false_positives
count_for Miss t = t.misses
count_for Switch t = t.switches

-- "its MOTP sums 1.0 - that", over matches and switches together
abbrev pub iou_mean : Tally → Float
iou_mean t = mean_of t.iou (pairs_of t)

-- beside refusal 1 every other result is 0
abbrev pub size_is : Bool → ℕ → Count
size_is sound n = cond sound (record { number = 0; value = n }) (record { number = 1; value = 0 })

abbrev pub score_is : Bool → Float → Score
score_is sound x = cond sound (record { number = 0; value = x }) (record { number = 1; value = zero64 })

abbrev pub counted_of : MOTAccumulator → EventType → Count
counted_of s type = size_is (sound_state s) (count_for type (tally_of (logged s.log)))
