-- An update in place keeps what the next one asks: no more events and ids in use than there are places. Assumes nothing.
use mathlib.Core.Path.{◌≡◌, sym, subst}
use mathlib.Core.Bool.{true, false, true≢false}
use mathlib.Core.List.{List}
use mathlib.Core.Logic.{⊎_elim}
use Prim.Native.Nat.{◌+◌, ◌≤◌}
use borrow.Author.Tests.{ltb-false}
use lib.Dec.{eqb, ltb}
use lib.IntN.{ℤ}
use lib.ListN.{length, take}
use lib.Ieee.{Float}
use Rattle.square.proofs.Truth.{dec}
use Rattle.matrix.specs.Matrix.{matrix_of}
use Rattle.matrix.specs.declared.Measure.TheVariants.{Shared}
use Rattle.shape.specs.Shape.{shape_no}
use Rattle.events.specs.declared.Event.{Event}
use Rattle.seen.specs.declared.Hypotheses.{Hypotheses}
use Rattle.seen.specs.Seen.{SeenHypotheses}
use Rattle.seen.specs.Seen.{seen_by, seen_all, seen_hypotheses}
use Rattle.partners.specs.Partners.{Booked}
use Rattle.partners.specs.Partners.{SeenTruths}
use Rattle.partners.specs.Partners.{pairs_of, seen_truths}
use Rattle.partners.proofs.Meaning.{seen_few}
use Rattle.greedy.specs.declared.Pairing.{Pairing}
use Rattle.greedy_pairs.specs.Pairs.{by_share}
use Rattle.booking.specs.Booking.{events_of, log_after}
use Rattle.truths_in_place.proofs.Room.{booked_few}
use Rattle.metrics.specs.declared.MOTAccumulator.{MOTAccumulator}
use Rattle.metrics_booking.specs.declared.Updated.{Updated as After}
use Rattle.metrics_update.specs.Update.{stored_of, matched_by, booked_with, book_of, frame_after}
use Rattle.metrics_in_place.specs.declared.Used.{Used}
use Rattle.metrics_in_place.specs.declared.Closed.{Closed}
use Rattle.metrics_in_place.specs.InPlace.{Runs, state_of, Updated}

abbrev pub Few : MOTAccumulator → Type 0
Few s = (s.log.used ≤ 1024) × (s.truths.used ≤ 256) × (s.hypotheses.used ≤ 1024)

hypotheses_few : (h : Hypotheses) (ids : List ℤ) → (seen_hypotheses h ids).full ≡ false → (seen_hypotheses h ids).hypotheses.used ≤ 1024
unfolding seen_hypotheses
hypotheses_few h ids f =
    let n = length (seen_all (seen_by h) ids) in
    ⊎_elim
    (λ (e : ltb 1024 n ≡ true). absurd (true≢false (rw e at f)))
    (λ (e : ltb 1024 n ≡ false). rw e (ltb-false 1024 n e))
    (dec (ltb 1024 n))

with_few : (s : MOTAccumulator) (t : SeenTruths) (y : SeenHypotheses) (b : Booked) (es : List Event) → Few s → (t.full ≡ false → b.truths.used ≤ 256)
    → (y.full ≡ false → y.hypotheses.used ≤ 1024) → Few (booked_with s t y b es).state
unfolding log_after
with_few s t y b es h bf yf =
    ⊎_elim
    (λ (e : t.full ≡ true). rw e h)
    (λ (e : t.full ≡ false). ⊎_elim
    (λ (k : y.full ≡ true). rw (e, k) h)
    (λ (k : y.full ≡ false). ⊎_elim
    (λ (l : ltb 1024 (s.log.used + length es) ≡ true). rw (e, k, l) h)
    (λ (l : ltb 1024 (s.log.used + length es) ≡ false). rw (e, k, l) (ltb-false 1024 (s.log.used + length es) l, bf e, yf k))
    (dec (ltb 1024 (s.log.used + length es))))
    (dec y.full))
    (dec t.full)

book_few : (s : MOTAccumulator) (frame : ℤ) (truths hypotheses : List ℤ) (distances : List Float) (p : Pairing) → Few s → Few (book_of s frame truths hypotheses distances p).state
unfolding book_of
book_few s frame truths hypotheses distances p h =
    let t = seen_truths s.truths truths in
    let b = matched_by t.truths truths hypotheses p in
    with_few s t (seen_hypotheses s.hypotheses hypotheses) b (events_of frame truths hypotheses distances p b.switched) h
    (λ e. booked_few t.truths (pairs_of truths hypotheses (take p.used p.pairs)) (seen_few s.truths truths e))
    (hypotheses_few s.hypotheses hypotheses)

frame_few : (s : MOTAccumulator) (frame : ℤ) (truths hypotheses : List ℤ) (gt hyp : List Float) (threshold : Float) → Few s → Few (frame_after s frame truths hypotheses gt hyp threshold).state
unfolding frame_after
frame_few s frame truths hypotheses gt hyp threshold h =
    let number = shape_no (length truths) (length gt) (length hypotheses) (length hyp) in
    let shares = matrix_of Shared gt hyp (length truths) in
    ⊎_elim
    (λ (e : eqb number 0 ≡ true). rw e (book_few s frame truths hypotheses (stored_of shares) (by_share shares threshold (length hypotheses)) h))
    (λ (e : eqb number 0 ≡ false). rw e h)
    (dec (eqb number 0))

pub used_kept : (x : Runs) (used : Used) (frame : ℤ) (truths hypotheses : List ℤ) (gt hyp : List Float) (threshold : Float) → Few (state_of x used)
    → (y : Runs) (r : Closed) → Updated x used frame truths hypotheses gt hyp threshold y r → Few (state_of y r.used)
used_kept x used frame truths hypotheses gt hyp threshold h y r u =
    subst (λ (a : After). Few a.state) (sym u.state) (frame_few (state_of x used) frame truths hypotheses gt hyp threshold h)
