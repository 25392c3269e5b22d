-- Document 01, "Lifecycles and events": the four cases of an event, a log of events, and what a log counts and sums.
use Rattle.std.specs.Prelude.{List, [], ◌∷◌, Bool, ℕ, ◌+◌, ◌<◌, leb, ℤ, pos, length, take, replicate, Float}
use Rattle.std.specs.Float.{binary64, nan}
use Rattle.std.specs.Float.Ieee.{add, sub}
use Rattle.floats.specs.Float.{zero64, one64}
use Rattle.events.specs.declared.Event.{Event}
use Rattle.events.specs.declared.What.{What}
use Rattle.events.specs.declared.What.TheVariants.{Match, Switch, Miss, FalsePositive}
use Rattle.events.specs.declared.Log.{Log}
use Rattle.events.specs.declared.Tally.{Tally}

-- ---- what stands for each case
-- the truth id, the hypothesis id and the distance that a case holds: a list of one, or of none
pub record Values : Type 0 where
  pub truth : List ℤ
  pub hypothesis : List ℤ
  pub distance : List Float

abbrev pub values_of : What → Values
values_of (Match t h d) = record { truth = t ∷ []; hypothesis = h ∷ []; distance = d ∷ [] }
values_of (Switch t h d) = record { truth = t ∷ []; hypothesis = h ∷ []; distance = d ∷ [] }
values_of (Miss t) = record { truth = t ∷ []; hypothesis = []; distance = [] }
values_of (FalsePositive h) = record { truth = []; hypothesis = h ∷ []; distance = [] }

-- which of the four counts it raises by 1
pub record Cases : Type 0 where
  pub matches : ℕ
  pub switches : ℕ
  pub misses : ℕ
  pub false_positives : ℕ

abbrev pub cases_of : What → Cases
cases_of (Match t h d) = record { matches = 1; switches = 0; misses = 0; false_positives = 0 }
cases_of (Switch t h d) = record { matches = 0; switches = 1; misses = 0; false_positives = 0 }
cases_of (Miss t) = record { matches = 0; switches = 0; misses = 1; false_positives = 0 }
cases_of (FalsePositive h) = record { matches = 0; switches = 0; misses = 0; false_positives = 1 }

-- ---- a log
-- what the places of a new log hold
abbrev pub nothing : Event
nothing = record { frame = pos 0; what = Miss (pos 0) }

abbrev pub empty_log : Log
empty_log = record { events = replicate 1024 nothing; used = 0 }

-- what stands past the end of a list of events; no definition turns on it
abbrev pub no_event : Event
no_event = record { frame = pos 0; what = Match (pos 0) (pos 0) nan }

-- the events in use
abbrev pub logged : Log → List Event
logged l = take l.used l.events

-- refusal 1: a used count within the capacity
abbrev pub log_sound : Log → Bool
log_sound l = leb l.used 1024

-- ---- counts and sums
-- what the cases of these events come to in all
unfoldable pub total_of : (What → ℕ) → List Event → ℕ
total_of f [] = 0
total_of f (e ∷ es) = f e.what + total_of f es

-- x, and each of these distances, read by f, added to it in order
unfoldable pub plus_each : (Float → Float) → Float → List Float → Float
plus_each f x [] = x
plus_each f x (d ∷ ds) = plus_each f (add binary64 x (f d)) ds

-- the same with the distances of these events
unfoldable pub sum_from : (Float → Float) → Float → List Event → Float
sum_from f x [] = x
sum_from f x (e ∷ es) = sum_from f (plus_each f x (values_of e.what).distance) es

-- a stored distance, and the IoU that it was stored for: "its MOTP sums 1.0 - that"
abbrev pub itself : Float → Float
itself d = d

abbrev pub iou_of : Float → Float
iou_of d = sub binary64 one64 d

-- "truth": the events that hold a truth id
abbrev pub truths_of : What → ℕ
truths_of w = length (values_of w).truth

-- the counts and sums of a log's events, each sum from 0.0 on
unfoldable pub tally_of : List Event → Tally
tally_of es =
    record {
      matches = total_of (λ w. (cases_of w).matches) es;
      switches = total_of (λ w. (cases_of w).switches) es;
      misses = total_of (λ w. (cases_of w).misses) es;
      false_positives = total_of (λ w. (cases_of w).false_positives) es;
      truths = total_of truths_of es;
      distance = sum_from itself zero64 es;
      iou = sum_from iou_of zero64 es;
    }

-- one event more
unfoldable pub added_of : Tally → What → Tally
added_of t w =
    record {
      matches = t.matches + (cases_of w).matches;
      switches = t.switches + (cases_of w).switches;
      misses = t.misses + (cases_of w).misses;
      false_positives = t.false_positives + (cases_of w).false_positives;
      truths = t.truths + truths_of w;
      distance = plus_each itself t.distance (values_of w).distance;
      iou = plus_each iou_of t.iou (values_of w).distance;
    }

-- the same without the counts of the cases: a pair's truth id and distance
unfoldable pub paired_of : Tally → Float → Tally
paired_of t d =
    record {
      matches = t.matches;
      switches = t.switches;
      misses = t.misses;
      false_positives = t.false_positives;
      truths = t.truths + 1;
      distance = add binary64 t.distance d;
      iou = add binary64 t.iou (iou_of d);
    }

-- each count can be raised by 1 in a log of 1,024 events: no part of document 01
pub record Room (t : Tally) : Type 0 where
  pub matches : t.matches < 1024
  pub switches : t.switches < 1024
  pub misses : t.misses < 1024
  pub false_positives : t.false_positives < 1024
  pub truths : t.truths < 1024
