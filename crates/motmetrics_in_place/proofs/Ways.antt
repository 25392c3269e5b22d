-- The update in place, by the ways that the code goes. Assumes nothing.
use mathlib.Core.Path.{◌≡◌, refl, sym, ap, ◌∙◌, subst}
use mathlib.Core.Bool.{true, false}
use mathlib.Core.List.{List}
use Prim.Native.Nat.{ℕ, ◌+◌, ◌-◌, ◌<◌, ◌≤◌}
use borrow.Author.Tests.{ne_eqb}
use lib.IntN.{ℤ}
use lib.ListN.{length, take}
use lib.Ieee.{Float}
use Rattle.events.specs.declared.Log.{Log}
use Rattle.event_columns.specs.Columns.{log_of}
use Rattle.partners.specs.declared.Truths.{Truths}
use Rattle.partners.specs.Partners.{pairs_of}
use Rattle.truths_in_place.specs.declared.Matched.{Matched}
use Rattle.truths_in_place.specs.Table.{truths_in, MatchesBooked}
use Rattle.greedy.specs.declared.Pairing.{Pairing}
use Rattle.greedy.specs.Greedy.{Fitting}
use Rattle.greedy_pairs.specs.Pairs.{by_distance}
use Rattle.booking.specs.Booking.{events_of, log_after}
use Rattle.booking.proofs.Written.{event_count}
use Rattle.booking_in_place.specs.Written.{numbers_after, distances_after}
use Rattle.booking_in_place.proofs.Events.{log_after_lem}
use Rattle.motmetrics.specs.declared.MOTAccumulator.{MOTAccumulator}
use Rattle.motmetrics_update.specs.declared.Updated.{Updated as After}
use Rattle.std.specs.Prelude.{Result, Ok, Err}
use Rattle.std.specs.Result.{IsErrAnd}
use Rattle.refusals.specs.declared.Refusal.{Refusal}
use Rattle.refusals.specs.Refusals.{number_of}
use Rattle.sizes.specs.Sizes.{shape_no}
use Rattle.motmetrics_update.specs.Update.{matched_by, book_of}
use Rattle.motmetrics_update.proofs.Steps as steps
use Rattle.motmetrics_in_place.specs.declared.Used.{Used}
use Rattle.motmetrics_in_place.specs.declared.Closed.{Closed}
use Rattle.motmetrics_in_place.specs.Updated.{Runs, runs_of, state_of, Within, events_by, runs_after, runs_at, closed_of, Framed, Updated}

abbrev closed : ℕ → Used → Closed
closed number used = record { number = number; used = used }

-- ---- a frame whose pairing is there
module _ (x : Runs) (used : Used) (frame : ℤ) (objects hypotheses : List ℤ) (distances : List Float) (p : Pairing) (f : Fitting (length objects) (length hypotheses) p) where
  abbrev s : MOTAccumulator
  s = state_of x used

  abbrev count : ℕ
  count = length objects + length hypotheses - p.used

  pub table_full : (matched_by s objects hypotheses p).full ≡ true → Framed x used frame objects hypotheses distances p x (closed 5 used)
  table_full e = record { booked = steps.table_full s frame objects hypotheses distances p f (matched_by s objects hypotheses p) refl e; written = refl }

  pub log_full : (matched_by s objects hypotheses p).full ≡ false → 1024 < used.events + count → Framed x used frame objects hypotheses distances p x (closed 6 used)
  log_full e h = record { booked = steps.log_full s frame objects hypotheses distances p f (matched_by s objects hypotheses p) refl e h; written = refl }

  -- what the two callees promise of the runs, put together
  module _ (m : Matched) (numbers : List ℤ) (logged : List Float) (table : List ℤ) (next : ℕ)
      (em : MatchesBooked x.table used.truths (pairs_of objects hypotheses (take p.used p.pairs)) table m)
      (en : next ≡ used.events + length (events_of frame objects hypotheses distances p m.switched))
      (ew : numbers ≡ numbers_after x.numbers used.events (events_of frame objects hypotheses distances p m.switched))
      (ed : logged ≡ distances_after x.distances used.events (events_of frame objects hypotheses distances p m.switched)) where
    abbrev after : Used
    after = record { events = next; truths = m.used }

    abbrev es : ℕ
    es = length (events_by s frame objects hypotheses distances p)

    log_is : length x.numbers ≡ 4096 → length x.distances ≡ 1024 → used.events + count ≤ 1024
        → log_of numbers logged next ≡ log_after s.log (events_by s frame objects hypotheses distances p)
    log_is l d h =
        rw (ew, ed, en, em.switched)
        (log_after_lem (events_by s frame objects hypotheses distances p) x.numbers x.distances used.events l d
        (rw (event_count frame objects hypotheses distances p (matched_by s objects hypotheses p).switched f) h))

    pub all_booked : length x.numbers ≡ 4096 → length x.distances ≡ 1024 → (matched_by s objects hypotheses p).full ≡ false → used.events + count ≤ 1024
        → Framed x used frame objects hypotheses distances p (runs_of numbers logged table) (closed 0 after)
    unfolding runs_after
    all_booked l d e h =
        record {
          booked =
              ap (λ (t : Truths). (let u : After = record { number = 0; state = record { log = log_of numbers logged next; last_match = t } } in u)) em.truths
              ∙ steps.all_booked s frame objects hypotheses distances p f (matched_by s objects hypotheses p) refl (log_of numbers logged next) e h (log_is l d h);
          written = rw (ew, ed, em.switched, em.numbers) refl;
        }

-- ---- the frame
module _ (x : Runs) (used : Used) (frame : ℤ) (objects hypotheses : List ℤ) (distances : List Float)
    (k : ℕ) (ek : k ≡ shape_no (length objects) (length hypotheses) (length distances)) where
  pub misshapen : (k ≡ 0 → ⊥) → Updated x used frame objects hypotheses distances x (closed k used)
  misshapen n = record { booked = steps.misshapen (state_of x used) frame objects hypotheses distances k ek n; written = sym (rw (ne_eqb k 0 n)) }

  pub paired : k ≡ 0 → (p : Pairing) → p ≡ by_distance distances (length hypotheses) → (y : Runs) (r : Closed)
      → Framed x used frame objects hypotheses distances p y r → Updated x used frame objects hypotheses distances y r
  paired z p e y r f =
      record {
        booked = f.booked ∙ (ap (book_of (state_of x used) frame objects hypotheses distances) e ∙ steps.paired (state_of x used) frame objects hypotheses distances k ek z);
        written = f.written ∙ ap (λ (q : Pairing). runs_at r.number x (runs_after x used frame objects hypotheses distances q)) e;
      }

-- a refusal of its shape, passed on
passed : (used : Used) (r : Result Used Refusal) (e : Refusal) → IsErrAnd r (λ (x : Refusal). x ≡ e) → closed_of used r ≡ closed (number_of e) used
passed used (Ok next) e h = absurd h
passed used (Err x) e h = ap (λ (z : Refusal). closed (number_of z) used) h

pub passed_on : (x : Runs) (used : Used) (frame : ℤ) (objects hypotheses : List ℤ) (distances : List Float) (r : Result Used Refusal) (e : Refusal)
    → number_of e ≡ shape_no (length objects) (length hypotheses) (length distances) → IsErrAnd r (λ (y : Refusal). y ≡ e)
    → Updated x used frame objects hypotheses distances x (closed_of used r)
passed_on x used frame objects hypotheses distances r e s h =
    subst (Updated x used frame objects hypotheses distances x) (sym (passed used r e h)) (misshapen x used frame objects hypotheses distances (number_of e) s (steps.some_number e))
