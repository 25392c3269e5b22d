-- `seen::see_all` meets its contract. The ids passed are seen in the run, and the rest are to come. Assumes nothing.
use Rattle.std.proofs.Common.{rules, sym, arith, get_or, pos, w32}
use mir.Facts.{to_z-of_z}
use mir.Val.{SFits}
use Rattle.seen.proofs.Growth as law
use Rattle.seen.proofs.see_all.Goals as goal

pub returns-then-at-run : goal.returns-then-at-run
returns-then-at-run c =
    let f : SFits w32 (get_or c.args.ids.now c.loop-id.id-index (pos 0)) = search rules in
    law.stops c.args.run.now c.args.used c.args.ids.now c.loop-id.run c.loop-id.count c.loop-id.id-index c.loop-id.invariant _ c.seek-found.result c.place_of-at.result (omega arith) (sym (to_z-of_z f)) c.seek-found.ensures c.place_of-at.ensures (omega arith)

pub loop-id-preserved : goal.loop-id-preserved
loop-id-preserved c =
    let f : SFits w32 (get_or c.args.ids.now c.loop-id.id-index (pos 0)) = search rules in
    law.sees c.args.run.now c.args.used c.args.ids.now c.loop-id.run c.loop-id.count c.loop-id.id-index c.loop-id.invariant _ c.seek-found.result c.place_of-at.result c.used_with-count.result (omega arith) (sym (to_z-of_z f)) c.seek-found.ensures c.place_of-at.ensures c.used_with-count.ensures (omega arith)

pub returns : goal.returns
returns c =
    law.ends c.args.run.now c.args.used c.args.ids.now c.loop-id.run c.loop-id.count c.loop-id.id-index c.loop-id.invariant (omega arith)
