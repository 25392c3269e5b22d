-- `iou::shared` meets its contract. Assumes nothing.
use Rattle.iou.proofs.Nan.{quick_shared}
use Rattle.iou.proofs.shared.Goals as goal

pub returns : goal.returns
returns c h =
    rw (c.clamp.ensures, c.clamp-2.ensures)
    (quick_shared _ _ _ _ _ _ h c.upper.ensures c.upper-2.ensures c.lower.ensures c.lower-2.ensures)
