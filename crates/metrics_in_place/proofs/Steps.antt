-- The steps of the update in place, by the number that they answer. Assumes nothing.
use mathlib.Core.Path.{◌≡◌, refl, sym, ap, ◌∙◌, subst}
use mathlib.Core.Bool.{true, false}
use mathlib.Core.List.{List}
use Prim.Native.Nat.{ℕ, ◌+◌, ◌-◌, ◌<◌, ◌≤◌}
use native.Mathlib.Omega.{arith}
use borrow.Author.Tests.{ne_eqb}
use lib.IntN.{ℤ}
use lib.ListN.{length, take}
use lib.Ieee.{Float}
use Rattle.std.specs.Prelude.{Result, Ok, Err}
use Rattle.std.specs.Result.{IsErrAnd}
use Rattle.refusals.specs.declared.Refusal.{Refusal}
use Rattle.refusals.specs.Refusals.{number_of}
use Rattle.matrix.specs.Matrix.{matrix_of}
use Rattle.matrix.specs.declared.Measure.TheVariants.{Shared}
use Rattle.shape.specs.Shape.{shape_no}
use Rattle.events.specs.declared.Event.{Event}
use Rattle.seen.specs.declared.Hypotheses.{Hypotheses}
use Rattle.seen.specs.Seen.{seen_all, hypotheses_of, seen_hypotheses}
use Rattle.partners.specs.declared.Truths.{Truths}
use Rattle.partners.specs.Partners as partners
use Rattle.partners.specs.Partners.{Pair, pairs_of, booked_of, seen_truths}
use Rattle.greedy.specs.declared.Pairing.{Pairing}
use Rattle.greedy.specs.Greedy.{Fitting}
use Rattle.greedy_pairs.specs.Pairs.{by_share}
use Rattle.booking.specs.Booking.{events_of, log_after}
use Rattle.booking.proofs.Written.{event_count}
use Rattle.event_columns.specs.Columns.{log_of}
use Rattle.booking_in_place.specs.Written.{numbers_after, distances_after}
use Rattle.booking_in_place.proofs.Events.{log_after_lem}
use Rattle.truths_in_place.specs.declared.Matched.{Matched}
use Rattle.truths_in_place.specs.Table.{truths_in, pairs_put, seen_put, MatchesBooked, TruthsSeen}
use Rattle.metrics.specs.declared.MOTAccumulator.{MOTAccumulator}
use Rattle.metrics_update.specs.Update.{stored_of, refused_at, matched_by, book_of, frame_after}
use Rattle.metrics_update.proofs.Steps as law
use Rattle.metrics_laws.proofs.Meaning.{never_full}
use Rattle.metrics_in_place.specs.declared.Used.{Used}
use Rattle.metrics_in_place.specs.declared.Closed.{Closed}
use Rattle.metrics_in_place.specs.InPlace.{Runs, runs_of, state_of, Within, events_in, runs_booked, runs_at, runs_after, closed_of, Booked, BookedBy, Updated}

-- ---- a pairing
module _ (r : Runs) (u : Used) (w : Within r u) (frame : ℤ) (truths hypotheses : List ℤ) (distances : List Float) (p : Pairing) (f : Fitting (length truths) (length hypotheses) p) where
  abbrev s : MOTAccumulator
  s = state_of r u

  refused : (n : ℕ) → (n ≡ 0 → ⊥) → refused_at n s ≡ book_of s frame truths hypotheses distances p → Booked r u frame truths hypotheses distances p r (record { number = n; used = u })
  refused n x e = record { state = e; runs = sym (rw (ne_eqb n 0 x) refl) }

  pub no_truths : (seen_truths s.truths truths).full ≡ true → Booked r u frame truths hypotheses distances p r (record { number = 5; used = u })
  no_truths e = refused 5 (λ (z : 5 ≡ 0). omega arith) (law.truths_full s frame truths hypotheses distances p f (seen_truths s.truths truths) refl e)

  module _ (ft : (seen_truths s.truths truths).full ≡ false) where
    pub no_hypotheses : (seen_hypotheses s.hypotheses hypotheses).full ≡ true → Booked r u frame truths hypotheses distances p r (record { number = 5; used = u })
    no_hypotheses e =
        refused 5 (λ (z : 5 ≡ 0). omega arith)
        (law.hypotheses_full s frame truths hypotheses distances p f (seen_truths s.truths truths) refl ft (seen_hypotheses s.hypotheses hypotheses) refl e)

    module _ (fh : (seen_hypotheses s.hypotheses hypotheses).full ≡ false) where
      pub no_log : 1024 < u.events + (length truths + length hypotheses - p.used) → Booked r u frame truths hypotheses distances p r (record { number = 6; used = u })
      no_log h =
          refused 6 (λ (z : 6 ≡ 0). omega arith)
          (law.log_full s frame truths hypotheses distances p f (seen_truths s.truths truths) refl ft (seen_hypotheses s.hypotheses hypotheses) refl fh h)

      -- ---- all is booked
      module _ (h : u.events + (length truths + length hypotheses - p.used) ≤ 1024)
          (table : List ℤ) (seen : ℕ) (et : TruthsSeen r.table u.truths truths table seen) where
        abbrev ps : List Pair
        ps = pairs_of truths hypotheses (take p.used p.pairs)

        -- the pairs bring no new id
        pub never : (booked_of (truths_in table seen) ps).full ≡ false
        never = ap (λ (t : Truths). (booked_of t ps).full) et.truths ∙ never_full truths hypotheses p f s.truths ft

        module _ (run : List ℤ) (known : ℕ) (eh : hypotheses_of run known ≡ (seen_hypotheses s.hypotheses hypotheses).hypotheses)
            (matched : Matched) (after : List ℤ) (em : MatchesBooked table seen ps after matched) where
          abbrev b : partners.Booked
          b = matched_by (seen_truths s.truths truths).truths truths hypotheses p

          same_switched : matched.switched ≡ b.switched
          same_switched = em.switched ∙ ap (λ (t : Truths). (booked_of t ps).switched) et.truths

          same_truths : truths_in after matched.used ≡ b.truths
          same_truths = em.truths ∙ ap (λ (t : Truths). (booked_of t ps).truths) et.truths

          abbrev es : List Event
          es = events_in r u frame truths hypotheses distances p

          module _ (frame' : ℤ) (ef : frame' ≡ frame) (logged : ℕ) (el : logged ≡ u.events + length (events_of frame' truths hypotheses distances p matched.switched))
              (numbers : List ℤ) (en : numbers ≡ numbers_after r.numbers u.events (events_of frame' truths hypotheses distances p matched.switched))
              (dists : List Float) (ed : dists ≡ distances_after r.distances u.events (events_of frame' truths hypotheses distances p matched.switched)) where
            same_events : events_of frame' truths hypotheses distances p matched.switched ≡ es
            same_events = λ j. events_of (ef j) truths hypotheses distances p (same_switched j)

            numbers_are : numbers ≡ numbers_after r.numbers u.events es
            numbers_are = en ∙ ap (numbers_after r.numbers u.events) same_events

            dists_are : dists ≡ distances_after r.distances u.events es
            dists_are = ed ∙ ap (distances_after r.distances u.events) same_events

            same_log : log_of numbers dists logged ≡ log_after s.log es
            same_log =
                let n = event_count frame truths hypotheses distances p b.switched f in
                (λ j. log_of (numbers_are j) (dists_are j) ((el ∙ ap (λ (l : List Event). u.events + length l) same_events) j))
                ∙ log_after_lem es r.numbers r.distances u.events w.numbers w.distances (omega arith)

            table_is : after ≡ pairs_put (seen_put r.table u.truths (seen_all (take u.truths r.table) truths)) (length (seen_all (take u.truths r.table) truths)) ps
            table_is = em.numbers ∙ (λ j. pairs_put (et.numbers j) (et.count j) ps)

            pub all : Booked r u frame truths hypotheses distances p (runs_of numbers dists after run)
                (record { number = 0; used = record { events = logged; truths = matched.used; hypotheses = known } })
            unfolding runs_booked
            all =
                record {
                  state =
                      (λ j. record { number = 0; state = record { log = same_log j; truths = same_truths j; hypotheses = eh j } })
                      ∙ law.all_booked s frame truths hypotheses distances p f (seen_truths s.truths truths) refl ft (seen_hypotheses s.hypotheses hypotheses) refl b refl (log_after s.log es) fh h refl;
                  runs = λ j. runs_of (numbers_are j) (dists_are j) (table_is j) (ap (λ (x : Hypotheses). x.ids) eh j);
                }

-- ---- the pairing of a frame
pub as_paired : (r : Runs) (u : Used) (truths hypotheses : List ℤ) (shares : List Float) (threshold : Float) (frame' frame : ℤ) → frame' ≡ frame
    → (distances : List Float) → distances ≡ stored_of shares → (p : Pairing) → p ≡ by_share shares threshold (length hypotheses) → (after : Runs) (c : Closed)
    → Booked r u frame' truths hypotheses distances p after c → BookedBy r u frame truths hypotheses shares threshold after c
as_paired r u truths hypotheses shares threshold frame' frame ef distances ed p ep after c t =
    record {
      state = t.state ∙ (λ j. book_of (state_of r u) (ef j) truths hypotheses (ed j) (ep j));
      runs = t.runs ∙ (λ j. runs_at c.number (runs_booked r u (ef j) truths hypotheses (ed j) (ep j)) r);
    }

as_booked : (r : Runs) (u : Used) (truths hypotheses : List ℤ) (threshold : Float) (frame' frame : ℤ) → frame' ≡ frame → (shares' shares : List Float) → shares' ≡ shares
    → (after : Runs) (c : Closed) → BookedBy r u frame' truths hypotheses shares' threshold after c → BookedBy r u frame truths hypotheses shares threshold after c
as_booked r u truths hypotheses threshold frame' frame ef shares' shares es after c t =
    as_paired r u truths hypotheses shares threshold frame' frame ef (stored_of shares') (ap stored_of es) (by_share shares' threshold (length hypotheses))
    (ap (λ (l : List Float). by_share l threshold (length hypotheses)) es) after c t

-- ---- a frame
module _ (r : Runs) (u : Used) (frame : ℤ) (truths hypotheses : List ℤ) (gt hyp : List Float) (threshold : Float) (number : ℕ)
    (e : number ≡ shape_no (length truths) (length gt) (length hypotheses) (length hyp)) where
  pub misshapen : (number ≡ 0 → ⊥) → Updated r u frame truths hypotheses gt hyp threshold r (record { number = number; used = u })
  misshapen x = record { state = law.misshapen (state_of r u) frame truths hypotheses gt hyp threshold number e x; runs = sym (rw (ne_eqb number 0 x) refl) }

  pub framed : number ≡ 0 → (frame' : ℤ) → frame' ≡ frame → (shares : List Float) → shares ≡ matrix_of Shared gt hyp (length truths) → (after : Runs) (c : Closed)
      → BookedBy r u frame' truths hypotheses shares threshold after c → Updated r u frame truths hypotheses gt hyp threshold after c
  framed z frame' ef shares es after c b =
      let t = as_booked r u truths hypotheses threshold frame' frame ef shares (matrix_of Shared gt hyp (length truths)) es after c b in
      record { state = t.state ∙ law.framed (state_of r u) frame truths hypotheses gt hyp threshold number e z; runs = t.runs }

-- the frame's number as it came
pub as_updated : (r : Runs) (u : Used) (frame' frame : ℤ) → frame' ≡ frame → (truths hypotheses : List ℤ) (gt hyp : List Float) (threshold : Float) (after : Runs) (c : Closed)
    → Updated r u frame' truths hypotheses gt hyp threshold after c → Updated r u frame truths hypotheses gt hyp threshold after c
as_updated r u frame' frame ef truths hypotheses gt hyp threshold after c t =
    record {
      state = t.state ∙ (λ j. frame_after (state_of r u) (ef j) truths hypotheses gt hyp threshold);
      runs = t.runs ∙ (λ j. runs_at c.number (runs_after r u (ef j) truths hypotheses gt hyp threshold) r);
    }

-- a refusal of its shape, passed on
passed : (u : Used) (r : Result Used Refusal) (e : Refusal) → IsErrAnd r (λ (x : Refusal). x ≡ e) → closed_of u r ≡ record { number = number_of e; used = u }
passed u (Ok next) e h = absurd h
passed u (Err x) e h = ap (λ (z : Refusal). closed_of u (Err z)) h

pub passed_on : (r : Runs) (u : Used) (frame : ℤ) (truths hypotheses : List ℤ) (gt hyp : List Float) (threshold : Float) (o : Result Used Refusal) (e : Refusal)
    → number_of e ≡ shape_no (length truths) (length gt) (length hypotheses) (length hyp) → IsErrAnd o (λ (y : Refusal). y ≡ e)
    → Updated r u frame truths hypotheses gt hyp threshold r (closed_of u o)
passed_on r u frame truths hypotheses gt hyp threshold o e s h =
    subst (Updated r u frame truths hypotheses gt hyp threshold r) (sym (passed u o e h)) (misshapen r u frame truths hypotheses gt hyp threshold (number_of e) s (law.some_number e))
