-- The first i entries have been put in, and the rest is to come.
use Rattle.std.proofs.Common.{refl, arith}
use Rattle.sorting.proofs.Insertion.{none_put, one_put, all_put}
use Rattle.sorting.proofs.sort_short.Goals as goal

pub loop-i-init : goal.loop-i-init
loop-i-init c = none_put c.args.keys.now c.args.order.now

pub loop-i-preserved : goal.loop-i-preserved
loop-i-preserved c =
    one_put c.args.keys.now c.args.order.now c.loop-i.order _ c.put_last.new.run c.loop-i.i (omega arith) refl c.put_last.ensures c.loop-i.invariant

pub returns : goal.returns
returns c = all_put c.args.keys.now c.args.order.now c.loop-i.order c.loop-i.i (omega arith) c.loop-i.invariant
