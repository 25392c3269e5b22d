-- `metrics_in_place::book_shares` meets its contract. Assumes nothing.
use lib.ListN.{length}
use Rattle.metrics_update.proofs.Shares.{bookable}
use Rattle.metrics_in_place.proofs.book_shares.Goals as goal

pub book-requires : goal.book-requires
book-requires c =
    let b = bookable c.args.shares.now c.args.iou_threshold (length c.args.gt_ids.now) (length c.args.hyp_ids.now) c.requires.gt_ids_len_bound _ c.pair_by_share-p.ensures.0 _ c.pair_by_share-p.ensures.1 in
    record { within = c.requires.within; gt_ids_len_bound = b.0; fitting = b.1 }
