-- `iou::iou_distance` meets its contract: each return answers what the tests on the way decide. Assumes nothing.
use Rattle.iou.specs.Boxes.{iou_distance_of}
use Rattle.iou.proofs.Answers.{answered}
use Rattle.iou.proofs.iou_distance.Goals as goal
use Rattle.iou.proofs.iou_distance.Goals.{then-is_bad-via-then-is_bad, then-is_bad-via-else-is_bad+then-is_bad-2}

pub returns-then-is_bad : goal.returns-then-is_bad
unfolding iou_distance_of
returns-then-is_bad c =
    elim c.then-is_bad.branch [
      | then-is_bad-via-then-is_bad w ↦ answered (rw (← c.is_bad.ensures, w.if-is_bad.true))
      | then-is_bad-via-else-is_bad+then-is_bad-2 w ↦
          answered (rw (← c.is_bad.ensures, w.if-is_bad.false, ← w.is_bad-else-is_bad.ensures, w.if-is_bad-2.true))
    ]

pub returns : goal.returns
unfolding iou_distance_of
returns c =
    answered (rw (
      ← c.is_bad.ensures,
      c.if-is_bad.false,
      ← c.is_bad-else-is_bad.ensures,
      c.if-is_bad-2.false,
      c.box_distance.ensures,
    ))
