-- `id_runs::count_new` meets its contract. The new ids so far stand behind the known ones, and the rest are to come. Assumes nothing.
use Rattle.std.proofs.Common.{rules, sym, ◌∙◌, arith, get_or, pos, w32}
use mir.Val.{SFits}
use mir.Facts.{to_z-of_z}
use Rattle.id_runs.proofs.Counting as law
use Rattle.id_runs.proofs.count_new.Goals as goal
use Rattle.id_runs.proofs.count_new.Goals.{else-is_new, then-is_new}

pub loop-id-preserved : goal.loop-id-preserved
loop-id-preserved c =
    let m = c.loop-id.invariant.few in
    let k = c.requires in
    let f : SFits w32 (get_or c.args.ids.now c.loop-id.id-index (pos 0)) = search rules in
    elim c.if-is_new.branch [ then-is_new v ↦ rw (v.fresh-is, v.count-is) (law.counts c.args.known.now c.args.ids.now c.loop-id.fresh c.loop-id.count c.loop-id.id-index c.loop-id.invariant _ (omega arith) (sym (to_z-of_z f)) (omega arith) (sym c.is_new.ensures ∙ v.if-is_new.true)) | else-is_new v ↦ rw (v.fresh-is, v.count-is) (law.passes c.args.known.now c.args.ids.now c.loop-id.fresh c.loop-id.count c.loop-id.id-index c.loop-id.invariant _ (omega arith) (sym (to_z-of_z f)) (sym c.is_new.ensures ∙ v.if-is_new.false)) ]

pub returns : goal.returns
returns c =
    let k = c.requires in
    let f = c.loop-id.invariant.few in
    (law.ends c.args.known.now c.args.ids.now c.loop-id.fresh c.loop-id.count c.loop-id.id-index c.loop-id.invariant (omega arith) (omega arith), omega arith)
