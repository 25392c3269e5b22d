-- The used count never falls, and never passes the table's places. Assumes nothing.
use mathlib.Core.Path.{◌≡◌}
use mathlib.Core.List.{List}
use Prim.Native.Nat.{◌≤◌}
use native.Mathlib.Omega.{arith}
use lib.IntN.{ℤ}
use lib.ListN.{length}
use lib.Ieee.{Float}
use Rattle.rows.specs.declared.ExtendedMOTAccumulator.{ExtendedMOTAccumulator}
use Rattle.frame.specs.declared.Booked.{Booked}
use Rattle.frame.proofs.Soundness.{used_grows}
use Rattle.frame.proofs.Kept.{frame_in}
use Rattle.extended.specs.Update.{rows_in, pairing_in, frame_after, update_of}
use Rattle.extended.proofs.Ways.{after_ways, update_ways}

-- USED NEVER FALLS
pub update_grows : (s : ExtendedMOTAccumulator) (gt_ids : List ℤ) (gt : List Float) (pred_ids : List ℤ) (pred : List Float) (threshold : Float)
    → s.used ≤ (update_of s gt_ids gt pred_ids pred threshold).state.used
update_grows s gt_ids gt pred_ids pred threshold =
    let p = pairing_in s gt_ids gt pred_ids pred threshold in
    let same : s.used ≤ s.used = omega arith in
    update_ways s gt_ids gt pred_ids pred threshold (λ (b : Booked). s.used ≤ b.state.used) (λ e. same) (λ e x. same)
    (λ e z. used_grows s (rows_in gt_ids pred_ids p) p.pairs p.lefts p.extra (length gt_ids) p.distance)

-- what `update_sound` asks of its state it leaves in the next one
pub after_in : (s : ExtendedMOTAccumulator) → length s.slots ≡ 256 → s.used ≤ 256
    → (gt_ids : List ℤ) (gt : List Float) (pred_ids : List ℤ) (pred : List Float) (threshold : Float) → (frame_after s gt_ids gt pred_ids pred threshold).state.used ≤ 256
after_in s long few gt_ids gt pred_ids pred threshold =
    let p = pairing_in s gt_ids gt pred_ids pred threshold in
    after_ways s gt_ids gt pred_ids pred threshold (λ (b : Booked). b.state.used ≤ 256) (λ x. few)
    (λ z. frame_in s (rows_in gt_ids pred_ids p) p.pairs p.lefts p.extra (length gt_ids) p.distance long few)
