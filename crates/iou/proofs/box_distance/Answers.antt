-- `iou::box_distance` meets its contract: an intersection that is right for numbers serves. Assumes nothing.
use lib.Ieee.{of_bits}
use Rattle.iou.specs.Boxes.{away_of, union_of}
use Rattle.iou.proofs.Nan.{quick_distance}
use Rattle.iou.proofs.box_distance.Goals as goal

pub returns-then-union : goal.returns-then-union
unfolding away_of union_of of_bits
returns-then-union c =
    let pre = c.requires in
    rw (← quick_distance _ _ _ _ _ pre.0 pre.1 c.intersection-inter.ensures, c.if-union.true)

pub returns : goal.returns
unfolding away_of union_of of_bits
returns c =
    let pre = c.requires in
    rw (← quick_distance _ _ _ _ _ pre.0 pre.1 c.intersection-inter.ensures, c.if-union.false)
