-- `ids_in_place::see_truths` meets its contract. Assumes nothing.
use Rattle.std.proofs.Common.{rules, ◌≡◌, sym, ◌≤◌, arith, false, length, take}
use lib.Seq.{length-take-le}
use Rattle.seen.specs.Seen.{seen_all, seen_of}
use Rattle.truths_in_place.proofs.Room.{none_left, as_seen}
use Rattle.truths_in_place.proofs.Seeing as law
use Rattle.ids_in_place.proofs.see_truths.Goals as goal
use Rattle.ids_in_place.proofs.see_truths.Goals.{After-see_all-arg-1, After-unwrap-count}

-- the ids' column
column : (c : After-see_all-arg-1) → length (take 256 c.args.table.now) ≡ 256
column c = let n = c.requires.used_bound.1 in length-take-le 256 c.args.table.now (omega arith)

-- what is seen there
there : (c : After-unwrap-count) → record { used = c.unwrap-count.result; full = false } ≡ seen_of (length (take 256 c.args.table.now)) (seen_all (take c.args.used (take 256 c.args.table.now)) c.args.ids.now)
there c = as_seen _ c.unwrap-count.result _ c.see_all.result c.unwrap-count.ensures c.see_all.ensures.0

-- how many ids there are in the end
few : (c : After-unwrap-count) → (c.args.used ≤ c.unwrap-count.result) × (c.unwrap-count.result ≤ 256)
few c =
    let f = law.few c.args.table.now c.requires.used_bound.1 c.args.used c.requires.used_bound.0 c.args.ids.now c.requires.ids_value _ c.see_all.new.run (there c) c.see_all.ensures.1 in
    let g = law.grown c.args.table.now c.requires.used_bound.1 c.args.used c.requires.used_bound.0 c.args.ids.now c.requires.ids_value _ c.see_all.new.run (there c) c.see_all.ensures.1 in
    let n = law.counted c.args.table.now c.requires.used_bound.1 c.args.used c.requires.used_bound.0 c.args.ids.now c.requires.ids_value _ c.see_all.new.run (there c) c.see_all.ensures.1 in
    (omega arith, omega arith)

pub slice_bounds-see_all-end-2 : goal.slice_bounds-see_all-end-2
slice_bounds-see_all-end-2 c = sym (column (goal.at.slice_bounds-see_all-end-2 c).After-see_all-arg-1)

pub see_all-requires : goal.see_all-requires
see_all-requires c = let n = column (goal.at.see_all-requires c).After-see_all-arg-1 in let h = c.requires.used_bound.0 in (omega arith, omega arith)

pub unwrap-count-requires : goal.unwrap-count-requires
unwrap-count-requires c =
    none_left _ _ c.see_all.result c.see_all.ensures.0 (law.room_left c.args.table.now c.args.used c.args.ids.now c.requires.used_bound.1 c.requires.used_bound.0 c.requires.ids_value)

pub overflow_add-count : goal.overflow_add-count
overflow_add-count c = let h = (few (goal.at.overflow_add-count c).After-unwrap-count).1 in search rules

pub clear-requires : goal.clear-requires
clear-requires c =
    let t = (goal.at.clear-requires c).After-unwrap-count in
    let h = few t in
    let n = law.first_room c.args.table.now c.requires.used_bound.1 c.args.used c.requires.used_bound.0 c.args.ids.now c.requires.ids_value _ c.see_all.new.run (there t) c.see_all.ensures.1 in
    (omega arith, omega arith)

pub clear-requires-2 : goal.clear-requires-2
clear-requires-2 c =
    let t = (goal.at.clear-requires-2 c).After-unwrap-count in
    let h = few t in
    let n = law.middle_room c.args.table.now c.requires.used_bound.1 c.args.used c.requires.used_bound.0 c.args.ids.now c.requires.ids_value _ c.see_all.new.run (there t) c.see_all.ensures.1 c.clear.new.run c.clear.ensures in
    (omega arith, omega arith)

pub returns : goal.returns
returns c =
    let t = (goal.at.returns c).After-unwrap-count in
    law.seen_whole c.args.table.now c.requires.used_bound.1 c.args.used c.requires.used_bound.0 c.args.ids.now c.requires.ids_value _ c.see_all.new.run (there t) c.see_all.ensures.1 c.clear.new.run c.clear.ensures c.clear-2.new.run c.clear-2.ensures
