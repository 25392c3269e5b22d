-- The steps of a booking, by the number that they answer. Assumes nothing.
use mathlib.Core.Path.{◌≡◌, refl, sym, ap, ◌∙◌}
use mathlib.Core.Bool.{Bool, true, false}
use Rattle.std.specs.Prelude.{Option, Some}
use mathlib.Core.List.{List}
use Prim.Native.Nat.{ℕ, ◌+◌, ◌-◌, ◌<◌, ◌≤◌}
use borrow.Author.Tests.{lt-ltb, le-ltb}
use lib.IntN.{ℤ}
use lib.ListN.{length}
use lib.Ieee.{Float}
use Rattle.events.specs.declared.Log.{Log}
use Rattle.seen.specs.Seen.{SeenHypotheses}
use Rattle.seen.specs.declared.Hypotheses.{Hypotheses}
use Rattle.seen.specs.Seen.{seen_hypotheses, hypotheses_seen}
use Rattle.partners.specs.Partners.{Booked}
use Rattle.partners.specs.Partners.{SeenTruths}
use Rattle.partners.specs.Partners.{seen_truths, truths_seen}
use Rattle.partners.specs.declared.Truths.{Truths}
use Rattle.matches.specs.declared.Booked as matches
use Rattle.matches.specs.Matches.{pairs_booked}
use Rattle.greedy.specs.declared.Pairing.{Pairing}
use Rattle.greedy.specs.Greedy.{Fitting}
use Rattle.booking.specs.Booking.{events_of, log_after}
use Rattle.booking.proofs.Written.{event_count}
use Rattle.metrics.specs.declared.MOTAccumulator.{MOTAccumulator}
use Rattle.metrics_booking.specs.declared.Updated.{Updated}
use Rattle.metrics_booking.specs.declared.Tables.{Tables}
use Rattle.metrics_booking.specs.Booking.{refused_at, matched_by, Accepted, book_of}

module _ (s : MOTAccumulator) (frame : ℤ) (truths hypotheses : List ℤ) (distances : List Float) (p : Pairing) (f : Fitting (length truths) (length hypotheses) p)
    (x : SeenTruths) (ex : x ≡ seen_truths s.truths truths) where
  abbrev booked : Updated
  booked = book_of s frame truths hypotheses distances p

  abbrev more : ℕ
  more = length truths + length hypotheses - p.used

  pub truths_full : x.full ≡ true → refused_at 5 s ≡ booked
  unfolding book_of
  truths_full e = rw (← ex, e) refl

  module _ (fits : x.full ≡ false) (y : SeenHypotheses) (ey : y ≡ seen_hypotheses s.hypotheses hypotheses) where
    pub hypotheses_full : y.full ≡ true → refused_at 5 s ≡ booked
    unfolding book_of
    hypotheses_full e = rw (← ex, fits, ← ey, e) refl

    pub log_full : y.full ≡ false → 1024 < s.log.used + more → refused_at 6 s ≡ booked
    unfolding book_of
    log_full e h =
        let b = (matched_by (seen_truths s.truths truths).truths truths hypotheses p).switched in
        rw (event_count frame truths hypotheses distances p b f, ← ex, fits, ← ey, e, lt-ltb 1024 (s.log.used + more) h) refl

    pub all_booked : (b : Booked) → b ≡ matched_by x.truths truths hypotheses p → (log : Log) → y.full ≡ false → s.log.used + more ≤ 1024
        → log ≡ log_after s.log (events_of frame truths hypotheses distances p b.switched)
        → ◌≡◌ {A = Updated} (record { number = 0; state = record { log = log; truths = b.truths; hypotheses = y.hypotheses } }) booked
    unfolding book_of
    all_booked b eb log e h el =
        rw (el, ← ex, ← eb, fits, ← ey, e, event_count frame truths hypotheses distances p b.switched f, le-ltb 1024 (s.log.used + more) h) refl

-- ---- a frame that nothing refuses: what it leaves in the tables
pub left : (s : MOTAccumulator) (truths hypotheses : List ℤ) (p : Pairing) (u : Truths) → truths_seen s.truths (Some u) ≡ seen_truths s.truths truths
    → (h : Hypotheses) → hypotheses_seen s.hypotheses (Some h) ≡ seen_hypotheses s.hypotheses hypotheses → s.log.used + (length truths + length hypotheses - p.used) ≤ 1024
    → (o : Option matches.Booked) → pairs_booked u o ≡ matched_by u truths hypotheses p
    → Accepted s truths hypotheses p (record { truths = (pairs_booked u o).truths; switched = (pairs_booked u o).switched; hypotheses = h })
left s truths hypotheses p u eu h eh r o eo =
    let q : pairs_booked u o ≡ matched_by (seen_truths s.truths truths).truths truths hypotheses p = eo ∙ ap (λ (z : SeenTruths). matched_by z.truths truths hypotheses p) eu in
    record {
      truths_fit = ap (λ (z : SeenTruths). z.full) (sym eu);
      truths_are = ap (λ (z : Booked). z.truths) q;
      switched_are = ap (λ (z : Booked). z.switched) q;
      hypotheses_are = eh;
      room = r;
    }

-- and the frame booked with that
pub accepted : (s : MOTAccumulator) (frame : ℤ) (truths hypotheses : List ℤ) (distances : List Float) (p : Pairing) (f : Fitting (length truths) (length hypotheses) p)
    (t : Tables) → Accepted s truths hypotheses p t → (log : Log) → log ≡ log_after s.log (events_of frame truths hypotheses distances p t.switched)
    → ◌≡◌ {A = Updated} (record { number = 0; state = record { log = log; truths = t.truths; hypotheses = t.hypotheses } }) (book_of s frame truths hypotheses distances p)
accepted s frame truths hypotheses distances p f t a log el =
    let events : List Bool → Log = λ (z : List Bool). log_after s.log (events_of frame truths hypotheses distances p z) in
    (λ j. record { number = 0; state = record { log = log; truths = a.truths_are j; hypotheses = t.hypotheses } })
    ∙ all_booked s frame truths hypotheses distances p f (seen_truths s.truths truths) refl a.truths_fit (hypotheses_seen s.hypotheses (Some t.hypotheses)) a.hypotheses_are
    (matched_by (seen_truths s.truths truths).truths truths hypotheses p) refl log refl a.room (el ∙ ap events a.switched_are)
