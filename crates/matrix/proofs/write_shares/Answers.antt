-- `matrix::write_shares` meets its contract. Assumes nothing.
use mathlib.Core.Path.{sym}
use Rattle.matrix_numbers.proofs.Laws.{iou_matrix_ready}
use Rattle.matrix.proofs.write_shares.Goals as goal

pub write_rows-requires : goal.write_rows-requires
write_rows-requires c =
    let all = iou_matrix_ready _ _ _ (sym c.in_ok-check_iou_matrix.ensures) in
    record { pred_in_bounds = all.0; gt_len_bound = all.1.0; pred_len_bound = all.1.1 }
