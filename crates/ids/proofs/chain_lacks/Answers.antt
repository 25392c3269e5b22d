-- `ids::chain_lacks` meets its contract. Of the first i places those from at on don't hold the id. Assumes nothing.
use Rattle.std.proofs.Common.{rules, arith, ◌≡◌, ◌-◌, sym, true}
use mir.Facts.{to_z-of_z}
use Rattle.counts.specs.Counts.{same_id}
use Rattle.ids.specs.Chains.{id_at}
use Rattle.ids.proofs.Chains.{walk_ends, walk_finds}
use Rattle.ids.proofs.chain_lacks.Goals as goal

pub returns-then-same_id : goal.returns-then-same_id
returns-then-same_id c =
    let h = c.loop-at.invariant.low in
    let z = c.loop-at-test.true in
    let same : same_id (id_at c.args.ids.now (c.loop-at.at - 1)) c.args.id ≡ true = search rules in
    sym (walk_finds c.args.ids.now c.args.id c.args.i c.requires.0 (c.loop-at.at - 1) (omega arith) same)

pub returns : goal.returns
returns c =
    let e : c.loop-at.at ≡ 0 = (let z = c.loop-at-test.false in omega arith) in
    sym (walk_ends c.args.ids.now c.args.id c.args.i c.requires.0 (rw (e, to_z-of_z c.ranges.id) at c.loop-at.invariant))
