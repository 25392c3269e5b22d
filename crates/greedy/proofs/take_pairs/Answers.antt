-- The pairing holds what is taken of the pairs so far.
use Rattle.std.proofs.Common.{◌<◌, arith}
use Rattle.greedy.specs.Greedy.{marked}
use Rattle.greedy.proofs.Taking as law
use Rattle.greedy.proofs.take_pairs.Goals as goal
use Rattle.greedy.proofs.take_pairs.Goals.{Then-both_free, then-both_free, else-both_free}

has_room : (c : Then-both_free) → c.loop-place.p.used < 64
has_room c =
    law.room c.args.n c.args.w c.args.order.now c.loop-place.place-index c.requires.0 c.requires.1 c.requires.2 c.loop-place-test.true c.loop-place.p c.loop-place.invariant
    c.row_of-row.result c.col_of-col.result c.both_free.result c.row_of-row.ensures c.col_of-col.ensures c.both_free.ensures c.if-both_free.true

pub loop-place-init : goal.loop-place-init
unfolding marked
loop-place-init c = law.starts c.args.w c.args.order.now

pub offset_bounds-p-p : goal.offset_bounds-p-p
offset_bounds-p-p c = record { fits = omega (arith, has_room (goal.at.offset_bounds-p-p c).Then-both_free) }

pub bounds-p-p : goal.bounds-p-p
bounds-p-p c = has_room (goal.at.bounds-p-p c).Then-both_free

pub overflow_add-p : goal.overflow_add-p
overflow_add-p c = record { fits = omega (arith, has_room (goal.at.overflow_add-p c).Then-both_free) }

pub loop-place-preserved : goal.loop-place-preserved
loop-place-preserved c =
    elim c.if-both_free.branch [
      | then-both_free v ↦ law.takes c.args.n c.args.w c.args.order.now c.loop-place.place-index c.requires.0 c.requires.1 c.requires.2 c.loop-place-test.true c.loop-place.p c.loop-place.invariant
          c.row_of-row.result c.col_of-col.result c.both_free.result c.row_of-row.ensures c.col_of-col.ensures c.both_free.ensures c.if-both_free.p v.if-both_free.true v.p-is
      | else-both_free v ↦ law.skips c.args.n c.args.w c.args.order.now c.loop-place.place-index c.requires.0 c.requires.1 c.requires.2 c.loop-place-test.true c.loop-place.p c.loop-place.invariant
          c.row_of-row.result c.col_of-col.result c.both_free.result c.row_of-row.ensures c.col_of-col.ensures c.both_free.ensures c.if-both_free.p v.if-both_free.false v.p-is
    ]
