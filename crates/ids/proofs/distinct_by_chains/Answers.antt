-- `ids::distinct_by_chains` meets its contract. The first i ids are on their chains, and differ. Assumes nothing.
use Rattle.std.proofs.Common.{rules, arith, ◌≡◌, true, false, sym, ◌<◌, take, refl}
use Rattle.ids.specs.Ids.{seek_of, is_absent}
use Rattle.ids.specs.Chains.{id_at, bucket_of}
use Rattle.ids.proofs.Links.{linked_none, linked_more, all_apart, one_twice}
use Rattle.ids.proofs.distinct_by_chains.Goals as goal

pub loop-i-init : goal.loop-i-init
loop-i-init c = linked_none c.args.ids.now

pub returns-then-not-chain_lacks : goal.returns-then-not-chain_lacks
returns-then-not-chain_lacks c =
    let l = c.args.ids.now in
    let found : is_absent (seek_of (take c.loop-i.i l) (id_at l c.loop-i.i)) ≡ false = search rules in
    sym (one_twice l c.loop-i.i c.loop-i-test.true found)

pub loop-i-preserved : goal.loop-i-preserved
loop-i-preserved c =
    let l = c.args.ids.now in
    let h = c.loop-i-test.true in
    let few : c.loop-i.i < 1024 = (let r = c.requires in omega arith) in
    let own : c.bucket-b.result ≡ bucket_of (id_at l c.loop-i.i) = search rules in
    let new : is_absent (seek_of (take c.loop-i.i l) (id_at l c.loop-i.i)) ≡ true = search rules in
    linked_more l c.loop-i.heads c.loop-i.links c.loop-i.i c.loop-i.invariant few h c.bucket-b.result _ own c.bucket-b.ensures.1 refl new

pub returns : goal.returns
returns c =
    sym (all_apart c.args.ids.now c.loop-i.heads c.loop-i.links c.loop-i.i c.loop-i.invariant c.loop-i-test.false)
