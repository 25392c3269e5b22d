-- `matches::book_matches` meets its contract. The pairs passed are booked in the table in use, and the rest are to come. Assumes nothing.
use Rattle.std.proofs.Common.{rules, arith, length, get_or, ◌/◌, ◌%◌, pos}
use lib.ListN.{length-map}
use Rattle.counts.proofs.Ids.{Small}
use Rattle.partners.specs.Partners.{pairs_of, pair_at}
use Rattle.partners.proofs.Turns as law
use Rattle.matches.proofs.book_matches.Goals as goal

pub loop-i-init : goal.loop-i-init
loop-i-init c = law.begins c.args.t (pairs_of c.args.object_ids.now c.args.hypothesis_ids.now c.args.pairs.now) (search rules) (search rules) (omega arith)

pub shared_ref_as_front-seek : goal.shared_ref_as_front-seek
shared_ref_as_front-seek c = let n = c.loop-i.invariant.few in let m = c.loop-i.invariant.ids_long in omega arith

pub returns-then-at-ge256 : goal.returns-then-at-ge256
returns-then-at-ge256 c =
    let g = c.loop-i.invariant in
    let k = c.wide-k.result in
    let w = length c.args.hypothesis_ids.now in
    let s : Small (get_or c.args.object_ids.now (k / w) (pos 0)) = search rules in
    let u : Small (get_or c.args.hypothesis_ids.now (k % w) (pos 0)) = search rules in
    let e = law.ends_at c.args.object_ids.now c.args.hypothesis_ids.now k (get_or c.args.pairs.now c.loop-i.i 0) c.wide-k.ensures s u in
    law.fills c.args.t (pairs_of c.args.object_ids.now c.args.hypothesis_ids.now c.args.pairs.now) c.loop-i.truths.ids c.loop-i.truths.lasts c.loop-i.truths.used c.loop-i.switched c.loop-i.i g _ (law.pair_is c.args.object_ids.now c.args.hypothesis_ids.now c.args.pairs.now c.loop-i.i (omega arith)) _ c.seek-found.result c.place_of-at.result e.0 c.seek-found.ensures c.place_of-at.ensures (omega arith)

pub used_with-requires : goal.used_with-requires
used_with-requires c = let n = c.loop-i.invariant.few in omega arith

pub loop-i-preserved : goal.loop-i-preserved
loop-i-preserved c =
    let g = c.loop-i.invariant in
    let k = c.wide-k.result in
    let w = length c.args.hypothesis_ids.now in
    let s : Small (get_or c.args.object_ids.now (k / w) (pos 0)) = search rules in
    let u : Small (get_or c.args.hypothesis_ids.now (k % w) (pos 0)) = search rules in
    let e = law.ends_at c.args.object_ids.now c.args.hypothesis_ids.now k (get_or c.args.pairs.now c.loop-i.i 0) c.wide-k.ensures s u in
    let n = c.requires.1 in
    law.books c.args.t (pairs_of c.args.object_ids.now c.args.hypothesis_ids.now c.args.pairs.now) c.loop-i.truths.ids c.loop-i.truths.lasts c.loop-i.truths.used c.loop-i.switched c.loop-i.i g _ (law.pair_is c.args.object_ids.now c.args.hypothesis_ids.now c.args.pairs.now c.loop-i.i (omega arith)) _ _ c.seek-found.result c.place_of-at.result c.used_with.result c.is_switch.result (omega arith) e.0 e.1 c.seek-found.ensures c.place_of-at.ensures c.used_with.ensures (rw c.last_in.ensures at c.is_switch.ensures) (omega arith)

pub returns : goal.returns
returns c =
    let n = c.requires.1 in
    let l = length-map c.args.pairs.now (pair_at c.args.object_ids.now c.args.hypothesis_ids.now) in
    law.ends c.args.t (pairs_of c.args.object_ids.now c.args.hypothesis_ids.now c.args.pairs.now) c.loop-i.truths.ids c.loop-i.truths.lasts c.loop-i.truths.used c.loop-i.switched c.loop-i.i c.loop-i.invariant (omega arith) (omega arith)
