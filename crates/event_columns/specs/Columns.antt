-- A log of 1,024 events in two runs: four columns of whole numbers, one after the other, and one column of distances.
use Rattle.std.specs.Prelude.{cond, List, [], ◌∷◌, ℕ, zero, suc, ◌<◌, ◌≡◌, ℤ, pos, get_or, Float}
use Rattle.std.specs.Float.{nan}
use Rattle.floats.specs.Float.{zero64}
use Rattle.counts.specs.Counts.{same_id}
use Rattle.columns.specs.Columns.{cell, put_all}
use Rattle.events.specs.declared.Event.{Event}
use Rattle.events.specs.declared.Log.{Log}
use Rattle.events.specs.declared.What.{What}
use Rattle.events.specs.declared.What.TheVariants.{Match, Switch, Miss, FalsePositive}
use Rattle.event_columns.specs.declared.Cells.{Cells}

-- ---- an event and its five numbers
-- kind 0 is a match, 1 a switch, 2 a miss, any other a false positive
abbrev pub what_of : ℤ → ℤ → ℤ → Float → What
what_of kind truth hypothesis distance =
    cond (same_id kind (pos 0)) (Match truth hypothesis distance)
    (cond (same_id kind (pos 1)) (Switch truth hypothesis distance) (cond (same_id kind (pos 2)) (Miss truth) (FalsePositive hypothesis)))

unfoldable pub event_of : Cells → Event
event_of v = record { frame = v.frame; what = what_of v.kind v.truth v.hypothesis v.distance }

-- 0 where the event has no use for a column
abbrev pub cells_with : ℤ → What → Cells
cells_with frame (Match t h d) = record { frame = frame; kind = pos 0; truth = t; hypothesis = h; distance = d }
cells_with frame (Switch t h d) = record { frame = frame; kind = pos 1; truth = t; hypothesis = h; distance = d }
cells_with frame (Miss t) = record { frame = frame; kind = pos 2; truth = t; hypothesis = pos 0; distance = zero64 }
cells_with frame (FalsePositive h) = record { frame = frame; kind = pos 3; truth = pos 0; hypothesis = h; distance = zero64 }

unfoldable pub cells_of : Event → Cells
cells_of e = cells_with e.frame e.what

-- ---- their places in the two runs
-- runs of a log's lengths, and a place of it
pub record Within (numbers distances k : ℕ) : Type 0 where
  pub inside : k < 1024
  pub four_columns : numbers ≡ 4096
  pub one_column : distances ≡ 1024

unfoldable pub cells_at : List ℤ → List Float → ℕ → Cells
cells_at numbers distances k =
    record {
      frame = cell numbers 1024 k 0;
      kind = cell numbers 1024 k 1;
      truth = cell numbers 1024 k 2;
      hypothesis = cell numbers 1024 k 3;
      distance = get_or distances k nan;
    }

abbrev pub numbers_of : Cells → List ℤ
numbers_of v = v.frame ∷ v.kind ∷ v.truth ∷ v.hypothesis ∷ []

-- the whole numbers of an event at place k; its distance is `set` at k in the other run
unfoldable pub put_numbers : List ℤ → ℕ → Cells → List ℤ
put_numbers numbers k v = put_all numbers 1024 k (numbers_of v)

-- ---- THE LOG that two runs and a used count stand for
unfoldable pub events_from : List ℤ → List Float → ℕ → ℕ → List Event
events_from numbers distances i zero = []
events_from numbers distances i (suc n) = event_of (cells_at numbers distances i) ∷ events_from numbers distances (suc i) n

abbrev pub events_in : List ℤ → List Float → List Event
events_in numbers distances = events_from numbers distances 0 1024

abbrev pub log_of : List ℤ → List Float → ℕ → Log
log_of numbers distances used = record { events = events_in numbers distances; used = used }
