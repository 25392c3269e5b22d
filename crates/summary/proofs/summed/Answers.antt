-- `summary::summed` meets its contract. After i turns the first i slots are summed. Assumes nothing.
use mathlib.Core.Path.{◌≡◌, ap, ◌∙◌}
use Prim.Native.Nat.{◌<◌, ◌≤◌, ◌+◌}
use native.Mathlib.Omega.{arith}
use borrow.Author.Rules.{rules}
use lib.ListN.{length}
use lib.Seq.{get_or-take, length-take-le}
use Rattle.slots.specs.declared.Slot.{Slot}
use Rattle.slots.specs.Slots.{no_slot}
use Rattle.summary.specs.Coverage.{added_of, Below}
use Rattle.summary.proofs.Sums.{covered_none, covered_more}
use Rattle.summary.proofs.summed.Goals as goal

pub loop-slot-init : goal.loop-slot-init
loop-slot-init c = covered_none _

pub loop-slot-preserved : goal.loop-slot-preserved
loop-slot-preserved c =
    let k = c.loop-slot.slot-index in
    let n : length c.args.slots.now ≡ 256 = search rules in
    let u : c.args.used ≤ length c.args.slots.now = omega arith in
    let t = length-take-le c.args.used c.args.slots.now u in
    let h : k < c.args.used = omega arith in
    let at = get_or-take c.args.used c.args.slots.now k no_slot h in
    let e = c.frames_of-more.ensures in
    let w = c.loop-slot.invariant in (
      covered_more c.args.slots.now k c.loop-slot.c _ w.0
          ((λ j. record { tracked = c.loop-slot.c.tracked + e.tracked j; detected = c.loop-slot.c.detected + e.detected j })
          ∙ ap (λ (s : Slot). added_of c.loop-slot.c s.lifecycle) at),
      record { tracked = omega arith; detected = omega arith },
    )
