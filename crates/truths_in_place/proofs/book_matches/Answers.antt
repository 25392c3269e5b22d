-- `truths_in_place::book_matches` meets its contract. The pairs passed are booked in the run, and the rest are to come. Assumes nothing.
use Rattle.std.proofs.Common.{rules, ◌≡◌, ap, ◌∙◌, ◌+◌, ◌<◌, arith, length, get_or, ◌/◌, ◌%◌, pos, ℕ, w32}
use lib.ListN.{length-map}
use mir.Val.{SFits}
use mir.Facts.{to_z-of_z}
use Rattle.counts.proofs.Ids.{Small}
use Rattle.partners.specs.Partners.{pairs_of, pair_at}
use Rattle.partners.proofs.Turns.{Ends, ends_at, pair_is}
use Rattle.truths_in_place.proofs.Turns as law
use Rattle.truths_in_place.proofs.book_matches.Goals as goal
use Rattle.truths_in_place.proofs.book_matches.Goals.{After-place_of-at}

-- its two ids
ends : (c : After-place_of-at) → Ends c.args.object_ids.now c.args.hypothesis_ids.now c.wide-k.result (get_or c.args.pairs.now c.loop-i.i 0)
ends c =
    let k = c.wide-k.result in
    let w = length c.args.hypothesis_ids.now in
    let s : Small (get_or c.args.object_ids.now (k / w) (pos 0)) = search rules in
    let u : Small (get_or c.args.hypothesis_ids.now (k % w) (pos 0)) = search rules in
    ends_at c.args.object_ids.now c.args.hypothesis_ids.now k (get_or c.args.pairs.now c.loop-i.i 0) c.wide-k.ensures s u

-- its place in the table
place : (c : After-place_of-at) → c.place_of-at.result < 256
place c =
    law.has_place c.args.table.now c.args.used (pairs_of c.args.object_ids.now c.args.hypothesis_ids.now c.args.pairs.now) c.loop-i.table c.loop-i.count c.loop-i.switched c.loop-i.i c.loop-i.invariant _ (pair_is c.args.object_ids.now c.args.hypothesis_ids.now c.args.pairs.now c.loop-i.i (omega arith)) _ (ends c).0 c.seek-found.result c.seek-found.ensures c.place_of-at.result c.place_of-at.ensures c.requires.pairs_value

pub loop-i-init : goal.loop-i-init
loop-i-init c =
    law.begins c.args.table.now c.args.used (pairs_of c.args.object_ids.now c.args.hypothesis_ids.now c.args.pairs.now) c.requires.used_bound.1 c.requires.used_bound.0

pub prove-unreachable-requires : goal.prove-unreachable-requires
prove-unreachable-requires c = let h = place (goal.at.prove-unreachable-requires c).After-place_of-at in omega arith

pub loop-i-preserved : goal.loop-i-preserved
loop-i-preserved c =
    let n = c.requires.used_bound.2 in
    let t = (goal.at.loop-i-preserved c).After-place_of-at in
    let z = ends t in
    let third : c.place_of-at.result + 512 ≡ c.place_of-at.result + 256 + 256 = omega arith in
    let f : SFits w32 (get_or c.loop-i.table (c.place_of-at.result + 256) (pos 0)) = search rules in
    let g : SFits w32 (get_or c.loop-i.table (c.place_of-at.result + 512) (pos 0)) = search rules in
    law.books c.args.table.now c.args.used (pairs_of c.args.object_ids.now c.args.hypothesis_ids.now c.args.pairs.now) c.loop-i.table c.loop-i.count c.loop-i.switched c.loop-i.i c.loop-i.invariant _ (pair_is c.args.object_ids.now c.args.hypothesis_ids.now c.args.pairs.now c.loop-i.i (omega arith)) _ z.0 c.seek-found.result c.seek-found.ensures c.place_of-at.result c.place_of-at.ensures _ _ _ c.used_with-count.result c.is_switch.result (omega arith) z.1 c.used_with-count.ensures (to_z-of_z f) (to_z-of_z g ∙ ap (λ (k : ℕ). get_or c.loop-i.table k (pos 0)) third) c.is_switch.ensures (place t) c.put.new.table c.put.ensures

pub returns : goal.returns
returns c =
    let n = c.requires.used_bound.2 in
    let l = length-map c.args.pairs.now (pair_at c.args.object_ids.now c.args.hypothesis_ids.now) in
    law.ends c.args.table.now c.args.used (pairs_of c.args.object_ids.now c.args.hypothesis_ids.now c.args.pairs.now) c.loop-i.table c.loop-i.count c.loop-i.switched c.loop-i.i c.loop-i.invariant (omega arith) (omega arith)
