-- `id_runs::matched_ids` meets its contract. Assumes nothing.
use Rattle.std.proofs.Common.{rules, ℕ, ap, ◌∙◌, ◌/◌, arith, get_or, pos, w32}
use lib.ListN.{length-set}
use mir.Val.{SFits}
use mir.Facts.{to_z-of_z}
use Rattle.id_runs.proofs.Gathering.{one_more}
use Rattle.id_runs.proofs.matched_ids.Goals as goal

pub loop-i-preserved : goal.loop-i-preserved
loop-i-preserved c =
    let n = c.loop-i.invariant.0 in
    let k = c.requires.0 in
    let f : SFits w32 (get_or c.args.object_ids.now (c.wide.result / c.args.w) (pos 0)) = search rules in
    let e = to_z-of_z f ∙ ap (λ (row : ℕ). get_or c.args.object_ids.now (row / c.args.w) (pos 0)) c.wide.ensures in
    (length-set _ _ _ ∙ n, one_more c.args.object_ids.now c.args.w c.args.pairs.now c.loop-i.ids c.loop-i.i _ (omega arith) (omega arith) e c.loop-i.invariant.1)
