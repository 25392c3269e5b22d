-- The steps of the update, by the number that they answer. Assumes nothing.
use mathlib.Core.Path.{◌≡◌, refl, sym, ap, subst, ◌∙◌}
use mathlib.Core.Bool.{true, false}
use mathlib.Core.List.{List}
use Prim.Native.Nat.{ℕ, ◌+◌, ◌-◌, ◌<◌, ◌≤◌}
use borrow.Author.Tests.{lt-ltb, le-ltb, ne_eqb}
use lib.IntN.{ℤ}
use lib.ListN.{length}
use lib.Ieee.{Float}
use native.Mathlib.Omega.{arith}
use Rattle.std.specs.Prelude.{Result, Ok, Err}
use Rattle.std.specs.Result.{IsErrAnd, IfErr}
use Rattle.refusals.specs.declared.Refusal.{Refusal}
use Rattle.refusals.specs.declared.Refusal.TheVariants.{Unsound, TooMany, Misfit, EmptyBox, FullTable, NoRoom, Overflow}
use Rattle.refusals.specs.Refusals.{number_of}
use Rattle.sizes.specs.Sizes.{shape_no}
use Rattle.sizes.proofs.Shape.{Shaped, well_shaped}
use Rattle.events.specs.declared.Log.{Log}
use Rattle.partners.specs.Partners.{Booked}
use Rattle.greedy.specs.declared.Pairing.{Pairing}
use Rattle.greedy.specs.Greedy.{Fitting}
use Rattle.greedy_pairs.specs.Pairs.{by_distance}
use Rattle.greedy_pairs.proofs.Frames.{distance_fits}
use Rattle.booking.specs.Booking.{events_of, log_after}
use Rattle.booking.proofs.Written.{event_count}
use Rattle.motmetrics.specs.declared.MOTAccumulator.{MOTAccumulator}
use Rattle.motmetrics.specs.State.{sound_state}
use Rattle.motmetrics.proofs.Sound.{log_few, table_sound}
use Rattle.motmetrics_update.specs.declared.Updated.{Updated}
use Rattle.motmetrics_update.specs.Update.{refused_at, matched_by, book_of, frame_after, update_of}

-- ---- the booking
module _ (s : MOTAccumulator) (frame : ℤ) (objects hypotheses : List ℤ) (distances : List Float) (p : Pairing) (f : Fitting (length objects) (length hypotheses) p)
    (b : Booked) (eb : b ≡ matched_by s objects hypotheses p) where
  count_is : length (events_of frame objects hypotheses distances p b.switched) ≡ length objects + length hypotheses - p.used
  count_is = event_count frame objects hypotheses distances p b.switched f

  pub table_full : b.full ≡ true → refused_at 5 s ≡ book_of s frame objects hypotheses distances p
  unfolding book_of
  table_full e = rw (← eb, e) refl

  pub log_full : b.full ≡ false → 1024 < s.log.used + (length objects + length hypotheses - p.used) → refused_at 6 s ≡ book_of s frame objects hypotheses distances p
  unfolding book_of
  log_full e h = rw (← eb, e, count_is, lt-ltb 1024 (s.log.used + (length objects + length hypotheses - p.used)) h) refl

  pub all_booked : (log : Log) → b.full ≡ false → s.log.used + (length objects + length hypotheses - p.used) ≤ 1024
      → log ≡ log_after s.log (events_of frame objects hypotheses distances p b.switched)
      → ◌≡◌ {A = Updated} (record { number = 0; state = record { log = log; last_match = b.truths } }) (book_of s frame objects hypotheses distances p)
  unfolding book_of
  all_booked log e h el = rw (el, ← eb, e, count_is, le-ltb 1024 (s.log.used + (length objects + length hypotheses - p.used)) h) refl

-- no reason has the number 0
pub some_number : (r : Refusal) → number_of r ≡ 0 → ⊥
some_number Unsound h = omega arith
some_number TooMany h = omega arith
some_number Misfit h = omega arith
some_number EmptyBox h = omega arith
some_number FullTable h = omega arith
some_number NoRoom h = omega arith
some_number Overflow h = omega arith

-- a refusal that is passed on
pub passed_on : {A : Type 0} (r : Result A Refusal) (e : Refusal) (Q : Refusal → Type 0) → IsErrAnd r (λ (x : Refusal). x ≡ e) → Q e → IfErr r Q
passed_on (Ok next) e Q h q = absurd h
passed_on (Err x) e Q h q = subst Q (sym h) q

-- ---- the frame
module _ (s : MOTAccumulator) (frame : ℤ) (objects hypotheses : List ℤ) (distances : List Float) where
  abbrev number : ℕ
  number = shape_no (length objects) (length hypotheses) (length distances)

  pub misshapen : (k : ℕ) → k ≡ number → (k ≡ 0 → ⊥) → refused_at k s ≡ frame_after s frame objects hypotheses distances
  unfolding frame_after
  misshapen k e h = rw (← e, ne_eqb k 0 h) refl

  pub shape : (k : ℕ) → k ≡ number → k ≡ 0 → Shaped (length objects) (length hypotheses) (length distances)
  shape k e h = well_shaped (length objects) (length hypotheses) (length distances) (sym e ∙ h)

  pub paired : (k : ℕ) → k ≡ number → k ≡ 0 → book_of s frame objects hypotheses distances (by_distance distances (length hypotheses)) ≡ frame_after s frame objects hypotheses distances
  unfolding frame_after
  paired k e h = let q : number ≡ 0 = sym e ∙ h in rw q refl

  pub pairing_fits : Shaped (length objects) (length hypotheses) (length distances) → Fitting (length objects) (length hypotheses) (by_distance distances (length hypotheses))
  pairing_fits f = distance_fits distances (length objects) (length hypotheses) f.few_rows f.few_columns f.whole

  -- what is booked of its pairing is the frame's
  module _ (q : 0 ≡ number) (p : Pairing) (e : p ≡ by_distance distances (length hypotheses)) where
    pub fits : Fitting (length objects) (length hypotheses) p
    fits = subst (Fitting (length objects) (length hypotheses)) (sym e) (pairing_fits (shape 0 q refl))

    pub books : book_of s frame objects hypotheses distances p ≡ frame_after s frame objects hypotheses distances
    books = ap (book_of s frame objects hypotheses distances) e ∙ paired 0 q refl

  pub unsound : sound_state s ≡ false → refused_at 1 s ≡ update_of s frame objects hypotheses distances
  unfolding update_of
  unsound e = rw e refl

  pub sound : sound_state s ≡ true → frame_after s frame objects hypotheses distances ≡ update_of s frame objects hypotheses distances
  unfolding update_of
  sound e = rw e refl

pub used_within : (s : MOTAccumulator) → sound_state s ≡ true → (s.log.used ≤ 1024) × (s.last_match.used ≤ 256)
used_within s e = (log_few s e, (table_sound s e).0)
