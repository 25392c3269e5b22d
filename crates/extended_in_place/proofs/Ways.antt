-- The update in place, by the ways that the code goes. Assumes nothing.
use mathlib.Core.Path.{◌≡◌, sym, ap, ◌∙◌}
use mathlib.Core.List.{List}
use borrow.Author.Tests.{ne_eqb}
use lib.IntN.{ℤ}
use lib.ListN.{length}
use lib.Ieee.{Float}
use Rattle.pairing.specs.Pairing.{Pairing}
use Rattle.extended.specs.Update.{rows_in, pairing_in}
use Rattle.extended.proofs.Ways as ways
use Rattle.totals.specs.declared.Totals.{Totals}
use Rattle.inplace.specs.declared.Closed.{Closed}
use Rattle.inplace.specs.InPlace.{state_of, Framed}
use Rattle.extended_in_place.specs.Updated.{table_with, Updated}

module _ (run : List ℤ) (totals : Totals) (gt_ids : List ℤ) (gt : List Float) (pred_ids : List ℤ) (pred : List Float) (threshold : Float)
    (p : Pairing) (is : p ≡ pairing_in (state_of run totals) gt_ids gt pred_ids pred threshold) where
  pub unpaired : (p.number ≡ 0 → ⊥) → Updated run totals gt_ids gt pred_ids pred threshold run (record { number = p.number; totals = totals })
  unpaired x =
      record {
        booked = ways.unpaired (state_of run totals) gt_ids gt pred_ids pred threshold p is x;
        table = sym (rw (ne_eqb p.number 0 x));
      }

  pub booked : p.number ≡ 0 → (after : List ℤ) (r : Closed)
      → Framed run totals (rows_in gt_ids pred_ids p) p.pairs p.lefts p.extra (length gt_ids) p.distance after r
      → Updated run totals gt_ids gt pred_ids pred threshold after r
  booked e after r f =
      record {
        booked = f.booked ∙ ways.booked (state_of run totals) gt_ids gt pred_ids pred threshold p is e;
        table = f.table ∙ ap (table_with r run totals gt_ids pred_ids) is;
      }
