-- What follows of every update: a refused one keeps the state, and calls in a row are a fold. Assumes nothing.
use mathlib.Core.Path.{◌≡◌, refl, ap, ◌∙◌}
use mathlib.Core.List.{List}
use Prim.Native.Nat.{ℕ}
use borrow.Author.Tests.{ne_eqb}
use lib.IntN.{ℤ}
use lib.ListN.{length}
use lib.Ieee.{Float}
use Rattle.rows.specs.declared.ExtendedMOTAccumulator.{ExtendedMOTAccumulator}
use Rattle.rows.specs.declared.Row.{Row}
use Rattle.frame.specs.declared.Booked.{Booked}
use Rattle.frame.specs.Frame.{frame_of, closed, closed_at}
use Rattle.extended.specs.Update.{rows_in, pairing_in, update_of}
use Rattle.extended.specs.Play.{Frame, played_of, Played, none, next}
use Rattle.extended.proofs.Ways.{update_ways}

-- ---- beside a refusal the state is the one that came
abbrev Keeps : ExtendedMOTAccumulator → Booked → Type 0
Keeps s b = (b.number ≡ 0 → ⊥) → b.state ≡ s

closed_keeps : (s after : ExtendedMOTAccumulator) (number : ℕ) → Keeps s (closed_at number s after)
closed_keeps s after number x = rw (ne_eqb number 0 x)

frame_keeps : (s : ExtendedMOTAccumulator) (rows : ℕ → Row) (pairs lefts extra objects : ℕ) (d : Float) → Keeps s (frame_of s rows pairs lefts extra objects d)
unfolding frame_of closed
frame_keeps s rows pairs lefts extra objects d = closed_keeps s _ _

pub refused_keeps : (s : ExtendedMOTAccumulator) (gt_ids : List ℤ) (gt : List Float) (pred_ids : List ℤ) (pred : List Float) (threshold : Float)
    → ((update_of s gt_ids gt pred_ids pred threshold).number ≡ 0 → ⊥) → (update_of s gt_ids gt pred_ids pred threshold).state ≡ s
refused_keeps s gt_ids gt pred_ids pred threshold =
    let p = pairing_in s gt_ids gt pred_ids pred threshold in
    update_ways s gt_ids gt pred_ids pred threshold (Keeps s) (λ e x. refl) (λ e n x. refl)
    (λ e n. frame_keeps s (rows_in gt_ids pred_ids p) p.pairs p.lefts p.extra (length gt_ids) p.distance)

-- ---- ANY SEQUENCE OF CALLS ends in the fold's state
pub played_is : {s t : ExtendedMOTAccumulator} {fs : List Frame} → Played s fs t → t ≡ played_of s fs
unfolding played_of
played_is none = refl
played_is (next {fs = fs} b e p) = played_is p ∙ ap (λ (x : Booked). played_of x.state fs) e
