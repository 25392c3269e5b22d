-- `iou::box_share` meets its contract: an intersection that is right for numbers serves. Assumes nothing.
use lib.Ieee.{of_bits}
use Rattle.iou.specs.Boxes.{quotient_of, union_of}
use Rattle.iou.proofs.Nan.{quick_share}
use Rattle.iou.proofs.box_share.Goals as goal

pub returns-then-union_area : goal.returns-then-union_area
unfolding quotient_of union_of of_bits
returns-then-union_area c =
    let pre = c.requires in
    rw (← quick_share _ _ _ _ _ pre.0 pre.1 c.shared-inter_area.ensures, c.if-union_area.true)

pub returns-else-union_area : goal.returns-else-union_area
unfolding quotient_of union_of of_bits
returns-else-union_area c =
    let pre = c.requires in
    rw (← quick_share _ _ _ _ _ pre.0 pre.1 c.shared-inter_area.ensures, c.if-union_area.false)
