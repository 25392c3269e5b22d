-- `optimize::filtered` meets its contract. Assumes nothing.
use Rattle.optimize.proofs.Listing.{result_is}
use Rattle.optimize.proofs.filtered.Goals as goal

pub returns : goal.returns
returns c = result_is _ _ _ _ _ _ _ _ _ c.keep_pairs-kept.ensures _ _ _ _ _ _ c.pick-num_unmatched_rows.ensures c.pick-num_unmatched_cols.ensures
