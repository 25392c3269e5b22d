-- `optimize::rows_alone` meets its contract: no mark, so every row is left. Assumes nothing.
use Rattle.optimize.proofs.Listing.{alone_of}
use Rattle.optimize.proofs.rows_alone.Goals as goal

pub returns : goal.returns
returns c = alone_of _ _ _ _ c.empty.ensures c.pick-num_unmatched_rows.ensures
