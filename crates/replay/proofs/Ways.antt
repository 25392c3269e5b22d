-- The three ways of a frame: refused by the extended accumulator, by module 4's, or booked by both. Assumes nothing.
use mathlib.Core.Path.{◌≡◌}
use mathlib.Core.List.{List}
use borrow.Author.Tests.{eq-eqb, ne_eqb}
use lib.IntN.{ℤ}
use lib.Ieee.{Float}
use Rattle.frame.specs.declared.Booked.{Booked}
use Rattle.metrics_booking.specs.declared.Updated.{Updated}
use Rattle.extended.specs.Update as extended
use Rattle.metrics_update.specs.Update as update
use Rattle.replay.specs.declared.Both.{Both}
use Rattle.replay.specs.Replay.{half, refused_at, booked_by, kept_where, step_of}

module _ (b : Both) (e : Booked) (m : Updated) where
  extended_kept : (e.number ≡ 0 → ⊥) → refused_at b e.number 0 ≡ kept_where b e m
  extended_kept h = rw (ne_eqb _ _ h)

  metrics_kept : e.number ≡ 0 → (m.number ≡ 0 → ⊥) → refused_at b 0 m.number ≡ kept_where b e m
  metrics_kept k h = rw (eq-eqb _ _ k, ne_eqb _ _ h)

  both_kept : e.number ≡ 0 → m.number ≡ 0 → booked_by b e m ≡ kept_where b e m
  both_kept k h = rw (eq-eqb _ _ k, eq-eqb _ _ h)

module _ (b : Both) (frame : ℤ) (truths : List ℤ) (gt : List Float) (ids : List ℤ) (boxes : List Float) {e : Booked} (p : e ≡ extended.update_of b.extended truths gt ids boxes half) where
  pub extended_refuses : (e.number ≡ 0 → ⊥) → refused_at b e.number 0 ≡ step_of b frame truths gt ids boxes
  unfolding step_of
  extended_refuses h = rw (← p) (extended_kept b e (update.update_of b.metrics frame truths ids gt boxes half) h)

  module _ {m : Updated} (q : m ≡ update.update_of b.metrics frame truths ids gt boxes half) (k : e.number ≡ 0) where
    pub metrics_refuses : (m.number ≡ 0 → ⊥) → refused_at b 0 m.number ≡ step_of b frame truths gt ids boxes
    unfolding step_of
    metrics_refuses h = rw (← p, ← q) (metrics_kept b e m k h)

    pub both_book : m.number ≡ 0 → booked_by b e m ≡ step_of b frame truths gt ids boxes
    unfolding step_of
    both_book h = rw (← p, ← q) (both_kept b e m k h)
