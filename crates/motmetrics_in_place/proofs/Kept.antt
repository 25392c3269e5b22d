-- An update in place keeps what the next one asks: no more events and truth ids in use than there are places. Assumes nothing.
use mathlib.Core.Path.{◌≡◌, refl, sym, subst}
use mathlib.Core.Bool.{Bool, true, false}
use mathlib.Core.List.{List}
use mathlib.Core.Logic.{⊎_elim}
use Prim.Native.Nat.{ℕ, ◌+◌, ◌≤◌}
use borrow.Author.Tests.{ltb-false}
use lib.Dec.{eqb, ltb}
use lib.IntN.{ℤ}
use lib.ListN.{length, take}
use lib.Ieee.{Float}
use Rattle.square.proofs.Truth.{dec}
use Rattle.events.specs.declared.Event.{Event}
use Rattle.partners.specs.Partners.{Booked}
use Rattle.partners.specs.Partners.{pairs_of}
use Rattle.greedy_pairs.specs.Pairs.{by_distance}
use Rattle.booking.specs.Booking.{events_of, log_after}
use Rattle.truths_in_place.proofs.Room.{booked_few}
use Rattle.motmetrics.specs.declared.MOTAccumulator.{MOTAccumulator}
use Rattle.motmetrics_update.specs.declared.Updated.{Updated as After}
use Rattle.sizes.specs.Sizes.{shape_no}
use Rattle.motmetrics_update.specs.Update.{matched_by, booked_with, book_of, frame_after}
use Rattle.motmetrics_in_place.specs.declared.Used.{Used}
use Rattle.motmetrics_in_place.specs.declared.Closed.{Closed}
use Rattle.motmetrics_in_place.specs.Updated.{Runs, Updated}

abbrev Few : MOTAccumulator → Type 0
Few s = (s.log.used ≤ 1024) × (s.last_match.used ≤ 256)

with_few : (s : MOTAccumulator) (b : Booked) (es : List Event) → Few s → b.truths.used ≤ 256 → Few (booked_with s b es).state
unfolding log_after
with_few s b es h t = ⊎_elim
    (λ (e : b.full ≡ true). rw e h)
    (λ (e : b.full ≡ false). ⊎_elim
    (λ (l : ltb 1024 (s.log.used + length es) ≡ true). rw (e, l) h)
    (λ (l : ltb 1024 (s.log.used + length es) ≡ false). rw (e, l) (ltb-false 1024 (s.log.used + length es) l, t))
    (dec (ltb 1024 (s.log.used + length es))))
    (dec b.full)

frame_few : (s : MOTAccumulator) (frame : ℤ) (objects hypotheses : List ℤ) (distances : List Float) → Few s → Few (frame_after s frame objects hypotheses distances).state
unfolding frame_after book_of
frame_few s frame objects hypotheses distances h =
    let number = shape_no (length objects) (length hypotheses) (length distances) in
    let p = by_distance distances (length hypotheses) in
    let b = matched_by s objects hypotheses p in
    ⊎_elim
    (λ (e : eqb number 0 ≡ true). rw e (with_few s b (events_of frame objects hypotheses distances p b.switched) h (booked_few s.last_match (pairs_of objects hypotheses (take p.used p.pairs)) h.1)))
    (λ (e : eqb number 0 ≡ false). rw e h)
    (dec (eqb number 0))

pub used_kept : (x : Runs) (used : Used) (frame : ℤ) (objects hypotheses : List ℤ) (distances : List Float) → used.events ≤ 1024 → used.truths ≤ 256
    → (y : Runs) (r : Closed) → Updated x used frame objects hypotheses distances y r → (r.used.events ≤ 1024) × (r.used.truths ≤ 256)
used_kept x used frame objects hypotheses distances he ht y r u =
    subst (λ (a : After). Few a.state) (sym u.booked) (frame_few _ frame objects hypotheses distances (he, ht))
