-- Module 4's update over four lent runs of numbers and their used counts. They stand for the state of `state_of`.
use Rattle.std.specs.Prelude.{cond, Result, Ok, Err, ◌≡◌, List, ℕ, ◌≤◌, eqb, ℤ, length, take, Float}
use Rattle.refusals.specs.declared.Refusal.{Refusal}
use Rattle.refusals.specs.Refusals.{number_of}
use Rattle.matrix.specs.Matrix.{matrix_of}
use Rattle.matrix.specs.declared.Measure.TheVariants.{Shared}
use Rattle.events.specs.declared.Event.{Event}
use Rattle.seen.specs.Seen.{seen_all, hypotheses_of, seen_hypotheses}
use Rattle.partners.specs.Partners.{pairs_of, seen_truths}
use Rattle.greedy.specs.declared.Pairing.{Pairing}
use Rattle.greedy_pairs.specs.Pairs.{by_share}
use Rattle.booking.specs.Booking.{events_of}
use Rattle.event_columns.specs.Columns.{log_of}
use Rattle.booking_in_place.specs.Written.{numbers_after, distances_after}
use Rattle.truths_in_place.specs.Table.{truths_in, pairs_put, seen_put}
use Rattle.metrics.specs.declared.MOTAccumulator.{MOTAccumulator}
use Rattle.metrics_update.specs.Update.{stored_of, matched_by, book_of, frame_after}
use Rattle.metrics_in_place.specs.declared.Used.{Used}
use Rattle.metrics_in_place.specs.declared.Closed.{Closed}

-- ---- the state
-- the log's whole numbers and distances, the table of the truth ids, and the hypothesis ids
pub record Runs : Type 0 where
  pub numbers : List ℤ
  pub distances : List Float
  pub table : List ℤ
  pub hypotheses : List ℤ

abbrev pub runs_of : List ℤ → List Float → List ℤ → List ℤ → Runs
runs_of numbers distances table hypotheses = record { numbers = numbers; distances = distances; table = table; hypotheses = hypotheses }

-- THE STATE that runs and their used counts stand for
abbrev pub state_of : Runs → Used → MOTAccumulator
state_of r u =
    record {
      log = log_of r.numbers r.distances u.events;
      truths = truths_in r.table u.truths;
      hypotheses = hypotheses_of r.hypotheses u.hypotheses;
    }

-- what the inner layer needs: the runs' lengths, and used counts within the capacities
pub record Within (r : Runs) (u : Used) : Type 0 where
  pub numbers : length r.numbers ≡ 4096
  pub distances : length r.distances ≡ 1024
  pub table : length r.table ≡ 768
  pub hypotheses : length r.hypotheses ≡ 1024
  pub few_events : u.events ≤ 1024
  pub few_truths : u.truths ≤ 256
  pub few_hypotheses : u.hypotheses ≤ 1024

-- ---- a pairing, booked
abbrev pub events_in : Runs → Used → ℤ → List ℤ → List ℤ → List Float → Pairing → List Event
events_in r u frame truths hypotheses distances p =
    events_of frame truths hypotheses distances p (matched_by (seen_truths (truths_in r.table u.truths) truths).truths truths hypotheses p).switched

-- every number that a frame writes
unfoldable pub runs_booked : Runs → Used → ℤ → List ℤ → List ℤ → List Float → Pairing → Runs
runs_booked r u frame truths hypotheses distances p =
    let seen = seen_all (take u.truths r.table) truths in
    let es = events_in r u frame truths hypotheses distances p in
    record {
      numbers = numbers_after r.numbers u.events es;
      distances = distances_after r.distances u.events es;
      table = pairs_put (seen_put r.table u.truths seen) (length seen) (pairs_of truths hypotheses (take p.used p.pairs));
      hypotheses = (seen_hypotheses (hypotheses_of r.hypotheses u.hypotheses) hypotheses).hypotheses.ids;
    }

-- beside a refusal the numbers that came
abbrev pub runs_at : ℕ → Runs → Runs → Runs
runs_at number next came = cond (eqb number 0) next came

-- the used counts that a frame comes to, or its refusal, read as what a call gives
abbrev pub closed_of : Used → Result Used Refusal → Closed
closed_of came (Ok used) = record { number = 0; used = used }
closed_of came (Err r) = record { number = number_of r; used = came }

pub record Booked (came : Runs) (used : Used) (frame : ℤ) (truths hypotheses : List ℤ) (distances : List Float) (p : Pairing) (after : Runs) (r : Closed) : Type 0 where
  pub state : record { number = r.number; state = state_of after r.used } ≡ book_of (state_of came used) frame truths hypotheses distances p
  pub runs : after ≡ runs_at r.number (runs_booked came used frame truths hypotheses distances p) came

-- ---- a frame
-- the pairing and the distances of a frame whose IoUs are known
abbrev pub BookedBy : Runs → Used → ℤ → List ℤ → List ℤ → List Float → Float → Runs → Closed → Type 0
BookedBy came used frame truths hypotheses shares threshold after r =
    Booked came used frame truths hypotheses (stored_of shares) (by_share shares threshold (length hypotheses)) after r

abbrev pub runs_after : Runs → Used → ℤ → List ℤ → List ℤ → List Float → List Float → Float → Runs
runs_after came used frame truths hypotheses gt hyp threshold =
    let shares = matrix_of Shared gt hyp (length truths) in
    runs_booked came used frame truths hypotheses (stored_of shares) (by_share shares threshold (length hypotheses))

-- THE UPDATE: the number and the state of `frame_after`; every number of the runs, and beside a refusal those that came
pub record Updated (came : Runs) (used : Used) (frame : ℤ) (truths hypotheses : List ℤ) (gt hyp : List Float) (threshold : Float) (after : Runs) (r : Closed) : Type 0 where
  pub state : record { number = r.number; state = state_of after r.used } ≡ frame_after (state_of came used) frame truths hypotheses gt hyp threshold
  pub runs : after ≡ runs_at r.number (runs_after came used frame truths hypotheses gt hyp threshold) came
