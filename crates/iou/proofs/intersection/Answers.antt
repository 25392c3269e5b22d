-- `iou::intersection` meets its contract. Assumes nothing.
use Rattle.iou.proofs.Nan.{quick_intersection}
use Rattle.iou.proofs.intersection.Goals as goal

pub returns : goal.returns
returns c h =
    rw c.rectangle.ensures
    (quick_intersection _ _ _ _ _ _ h c.upper-x_min_inter.ensures c.upper-y_min_inter.ensures c.lower-x_max_inter.ensures c.lower-y_max_inter.ensures)
