-- What an accepted update adds to each counter: the lengths of the pairing's lists, and the switches of its rows. Assumes nothing.
use mathlib.Core.Path.{◌≡◌, refl, ap, ◌∙◌}
use mathlib.Core.Bool.{true}
use mathlib.Core.List.{List}
use Prim.Native.Nat.{ℕ, zero, suc, ◌+◌}
use native.Mathlib.Omega.{arith}
use borrow.Author.Tests.{eq-eqb}
use lib.IntN.{ℤ, pos, ◌+ℤ◌}
use lib.ListN.{length, take}
use lib.Ieee.{Float}
use Rattle.rows.specs.declared.ExtendedMOTAccumulator.{ExtendedMOTAccumulator}
use Rattle.rows.specs.declared.Row.{Row}
use Rattle.rows.specs.Rows.{trial_after, book_row}
use Rattle.frame.specs.declared.Booked.{Booked}
use Rattle.frame.specs.Frame.{sound_state, next_frame, shares_of, raised_by, trial_no, room_for_all, closed_at, closed, frame_of}
use Rattle.frame.specs.Held.{Held}
use Rattle.frame.proofs.Finals as finals
use Rattle.frame.proofs.Kept.{held_fits}
use Rattle.pairing.specs.Pairing.{Pairing}
use Rattle.extended.specs.Update.{rows_in, pairing_in, booked_with, update_of}
use Rattle.extended.specs.Number.{tally_in}
use Rattle.extended.proofs.Ways.{sound_used, update_ways}

-- the counters of t are those of s with a frame's added
pub record Raised (s : ExtendedMOTAccumulator) (matches misses extra switches objects : ℕ) (distance : Float) (t : ExtendedMOTAccumulator) : Type 0 where
  pub frame : t.frame_id ≡ s.frame_id +ℤ pos 1
  pub matched : t.num_matches ≡ s.num_matches +ℤ pos matches
  pub missed : t.num_misses ≡ s.num_misses +ℤ pos misses
  pub extras : t.num_false_positives ≡ s.num_false_positives +ℤ pos extra
  pub switched : t.num_switches ≡ s.num_switches +ℤ pos switches
  pub seen : t.num_objects ≡ s.num_objects +ℤ pos objects
  pub summed : t.total_distance ≡ distance

-- the booking of rows changes no counter
trial_raised : (rows : ℕ → Row) (f : ℤ) (s : ExtendedMOTAccumulator) (k pairs lefts extra switches objects : ℕ) (d : Float)
    → Raised s pairs lefts extra switches objects d (raised_by (trial_after rows f s k).state (shares_of pairs lefts extra switches objects) d)
unfolding trial_after book_row raised_by
trial_raised rows f s zero pairs lefts extra switches objects d =
    record { frame = refl; matched = refl; missed = refl; extras = refl; switched = refl; seen = refl; summed = refl }
trial_raised rows f s (suc k) pairs lefts extra switches objects d =
    let r = trial_raised rows f s k pairs lefts extra switches objects d in
    record { frame = r.frame; matched = r.matched; missed = r.missed; extras = r.extras; switched = r.switched; seen = r.seen; summed = r.summed }

closed_next : (P : ExtendedMOTAccumulator → Type 0) (s after : ExtendedMOTAccumulator) (number : ℕ) → (closed_at number s after).number ≡ 0 → P after → P (closed_at number s after).state
closed_next P s after number e p = rw (eq-eqb number 0 e) p

-- the switches of rows booked one after the other
abbrev pub switches_of : ExtendedMOTAccumulator → (ℕ → Row) → ℕ → ℕ
switches_of s rows n = (trial_after rows (next_frame s.frame_id) s n).switches

pub frame_raised : (s : ExtendedMOTAccumulator) (rows : ℕ → Row) (pairs lefts extra objects : ℕ) (d : Float) → (frame_of s rows pairs lefts extra objects d).number ≡ 0
    → Raised s pairs lefts extra (switches_of s rows (pairs + lefts)) objects d (frame_of s rows pairs lefts extra objects d).state
unfolding frame_of closed
frame_raised s rows pairs lefts extra objects d e =
    let f = next_frame s.frame_id in
    let t = trial_after rows f s (pairs + lefts) in
    let by = shares_of pairs lefts extra t.switches objects in
    closed_next (Raised s pairs lefts extra t.switches objects d) s (raised_by t.state by d) (trial_no t (room_for_all t.state by)) e
    (trial_raised rows f s (pairs + lefts) pairs lefts extra t.switches objects d)

-- ---- of the whole update
module _ (s : ExtendedMOTAccumulator) (gt_ids : List ℤ) (gt : List Float) (pred_ids : List ℤ) (pred : List Float) (threshold : Float) where
  abbrev pub pairs : Pairing
  pairs = pairing_in s gt_ids gt pred_ids pred threshold

  abbrev pub RaisedBy : Booked → Type 0
  RaisedBy b =
      b.number ≡ 0
      → Raised s pairs.pairs pairs.lefts pairs.extra (switches_of s (rows_in gt_ids pred_ids pairs) (pairs.pairs + pairs.lefts)) (length gt_ids) pairs.distance b.state

  -- THE TOTALS OF AN ACCEPTED UPDATE
  pub update_raised : RaisedBy (update_of s gt_ids gt pred_ids pred threshold)
  update_raised =
      update_ways s gt_ids gt pred_ids pred threshold RaisedBy (λ e (z : ◌≡◌ {A = ℕ} 1 0). absurd (omega arith)) (λ e x z. absurd (x z))
      (λ e n. frame_raised s (rows_in gt_ids pred_ids pairs) pairs.pairs pairs.lefts pairs.extra (length gt_ids) pairs.distance)

  -- ---- the slots and the switches are those of the booking without a bound
  module _ (h : Held s) where
    abbrev Tallied : Booked → Type 0
    Tallied b =
        b.number ≡ 0 → (take b.state.used b.state.slots ≡ (tally_in s gt_ids pred_ids pairs).slots)
        × (switches_of s (rows_in gt_ids pred_ids pairs) (pairs.pairs + pairs.lefts) ≡ (tally_in s gt_ids pred_ids pairs).switches)

    framed : sound_state s ≡ true → Tallied (booked_with s gt_ids pred_ids pairs)
    framed e z =
        let u = sound_used s e in
        let f = held_fits s u h in (
          finals.table_is s (rows_in gt_ids pred_ids pairs) pairs.pairs pairs.lefts pairs.extra (length gt_ids) pairs.distance h.long u f z,
          finals.switches_are s (rows_in gt_ids pred_ids pairs) pairs.pairs pairs.lefts pairs.extra (length gt_ids) pairs.distance h.long u f z,
        )

    tallied : Tallied (update_of s gt_ids gt pred_ids pred threshold)
    tallied =
        update_ways s gt_ids gt pred_ids pred threshold Tallied (λ e (z : ◌≡◌ {A = ℕ} 1 0). absurd (omega arith)) (λ e x z. absurd (x z)) (λ e n. framed e)

    pub update_table : let b = update_of s gt_ids gt pred_ids pred threshold in
        b.number ≡ 0 → take b.state.used b.state.slots ≡ (tally_in s gt_ids pred_ids pairs).slots
    update_table z = (tallied z).0

    pub update_switches : let b = update_of s gt_ids gt pred_ids pred threshold in
        b.number ≡ 0 → b.state.num_switches ≡ s.num_switches +ℤ pos (tally_in s gt_ids pred_ids pairs).switches
    update_switches z = (update_raised z).switched ∙ ap (λ (n : ℕ). s.num_switches +ℤ pos n) (tallied z).1
