-- The update of module 3's MOTAccumulator over the runs of a log and of a table, and their used counts.
use Rattle.std.specs.Prelude.{cond, Result, Ok, Err, List, ◌≡◌, ℕ, ◌≤◌, eqb, ℤ, length, take, Float}
use Rattle.refusals.specs.declared.Refusal.{Refusal}
use Rattle.refusals.specs.Refusals.{number_of}
use Rattle.events.specs.declared.Event.{Event}
use Rattle.event_columns.specs.Columns.{log_of}
use Rattle.partners.specs.Partners.{pairs_of}
use Rattle.truths_in_place.specs.Table.{truths_in, pairs_put}
use Rattle.greedy.specs.declared.Pairing.{Pairing}
use Rattle.greedy_pairs.specs.Pairs.{by_distance}
use Rattle.booking.specs.Booking.{events_of}
use Rattle.booking_in_place.specs.Written.{numbers_after, distances_after}
use Rattle.motmetrics.specs.declared.MOTAccumulator.{MOTAccumulator}
use Rattle.motmetrics_update.specs.Update.{matched_by, book_of, frame_after}
use Rattle.motmetrics_in_place.specs.declared.Used.{Used}
use Rattle.motmetrics_in_place.specs.declared.Closed.{Closed}

-- ---- the runs of a state
-- the whole numbers and the distances of its log, and the numbers of its table
pub record Runs : Type 0 where
  pub numbers : List ℤ
  pub distances : List Float
  pub table : List ℤ

abbrev pub runs_of : List ℤ → List Float → List ℤ → Runs
runs_of numbers distances table = record { numbers = numbers; distances = distances; table = table }

-- THE STATE that they stand for, with the used counts
abbrev pub state_of : Runs → Used → MOTAccumulator
state_of x used = record { log = log_of x.numbers x.distances used.events; last_match = truths_in x.table used.truths }

-- what is asked of soundness: runs of a state's lengths, and used counts within them
pub record Within (numbers distances table : ℕ) (used : Used) : Type 0 where
  pub four_columns : numbers ≡ 4096
  pub one_column : distances ≡ 1024
  pub three_columns : table ≡ 768
  pub few_events : used.events ≤ 1024
  pub few_truths : used.truths ≤ 256

-- ---- what a frame with a pairing writes
abbrev pub events_by : MOTAccumulator → ℤ → List ℤ → List ℤ → List Float → Pairing → List Event
events_by s frame objects hypotheses distances p = events_of frame objects hypotheses distances p (matched_by s objects hypotheses p).switched

-- its events after those in use, its pairs in the table, and no other number
unfoldable pub runs_after : Runs → Used → ℤ → List ℤ → List ℤ → List Float → Pairing → Runs
runs_after x used frame objects hypotheses distances p =
    let es = events_by (state_of x used) frame objects hypotheses distances p in
    record {
      numbers = numbers_after x.numbers used.events es;
      distances = distances_after x.distances used.events es;
      table = pairs_put x.table used.truths (pairs_of objects hypotheses (take p.used p.pairs));
    }

-- beside a refusal each number is the one that came
abbrev pub runs_at : ℕ → Runs → Runs → Runs
runs_at number came next = cond (eqb number 0) next came

-- the used counts that a frame comes to, or its refusal, read as what a call gives
abbrev pub closed_of : Used → Result Used Refusal → Closed
closed_of came (Ok used) = record { number = 0; used = used }
closed_of came (Err r) = record { number = number_of r; used = came }

-- ---- A FRAME whose pairing is there
pub record Framed (x : Runs) (used : Used) (frame : ℤ) (objects hypotheses : List ℤ) (distances : List Float) (p : Pairing) (y : Runs) (r : Closed) : Type 0 where
  pub booked : record { number = r.number; state = state_of y r.used } ≡ book_of (state_of x used) frame objects hypotheses distances p
  pub written : y ≡ runs_at r.number x (runs_after x used frame objects hypotheses distances p)

-- ---- THE UPDATE: the number and the state of `frame_after`, and every number of the runs
pub record Updated (x : Runs) (used : Used) (frame : ℤ) (objects hypotheses : List ℤ) (distances : List Float) (y : Runs) (r : Closed) : Type 0 where
  pub booked : record { number = r.number; state = state_of y r.used } ≡ frame_after (state_of x used) frame objects hypotheses distances
  pub written : y ≡ runs_at r.number x (runs_after x used frame objects hypotheses distances (by_distance distances (length hypotheses)))
