-- An update in place keeps what the next one asks: no more slots in use than the table has. Assumes nothing.
use mathlib.Core.Path.{sym, subst}
use mathlib.Core.List.{List}
use Prim.Native.Nat.{◌≤◌}
use lib.IntN.{ℤ}
use lib.ListN.{length}
use lib.Ieee.{Float}
use Rattle.columns.proofs.Laws.{slots_long}
use Rattle.frame.specs.declared.Booked.{Booked}
use Rattle.frame.proofs.Kept.{frame_in}
use Rattle.extended.specs.Update.{rows_in, pairing_in}
use Rattle.extended.proofs.Ways.{after_ways}
use Rattle.totals.specs.declared.Totals.{Totals}
use Rattle.inplace.specs.declared.Closed.{Closed}
use Rattle.inplace.specs.InPlace.{state_of}
use Rattle.extended_in_place.specs.Updated.{Updated}

pub used_kept : (run : List ℤ) (totals : Totals) (gt_ids : List ℤ) (gt : List Float) (pred_ids : List ℤ) (pred : List Float) (threshold : Float)
    → totals.used ≤ 256 → (after : List ℤ) (r : Closed) → Updated run totals gt_ids gt pred_ids pred threshold after r → r.totals.used ≤ 256
used_kept run totals gt_ids gt pred_ids pred threshold u after r h =
    let s = state_of run totals in
    let p = pairing_in s gt_ids gt pred_ids pred threshold in
    subst (λ (b : Booked). b.state.used ≤ 256) (sym h.booked)
    (after_ways s gt_ids gt pred_ids pred threshold (λ (b : Booked). b.state.used ≤ 256) (λ x. u)
    (λ z. frame_in s (rows_in gt_ids pred_ids p) p.pairs p.lefts p.extra (length gt_ids) p.distance (slots_long run) u))
