-- `ids::distinct_by_pairs` meets its contract. The ids from place i on decide what all of them do. Assumes nothing.
use Rattle.std.proofs.Common.{rules, arith, ◌≡◌, sym, ap, ◌∙◌, ◌≤◌, ◌-◌, ◌+◌, length, drop, get_or, pos}
use lib.ListN.{length-drop, drop_of_length-le}
use lib.Seq.{take_all}
use Rattle.counts.proofs.Ids.{Small, told}
use Rattle.ids.specs.Ids.{distinct_of, seek_of, is_absent}
use Rattle.ids.proofs.NoneTwice.{twice, once}
use Rattle.ids.proofs.distinct_by_pairs.Goals as goal
use Rattle.ids.proofs.distinct_by_pairs.Goals.{After-seek}

-- what the lookup of one id in those after it gave
lookup : (c : After-seek) → c.seek.result ≡ seek_of (drop (c.loop-i.i + 1) c.args.ids.now) (get_or c.args.ids.now c.loop-i.i (pos 0))
lookup c =
    let l = c.args.ids.now in
    let e = length-drop (c.loop-i.i + 1) l in
    let few : length (drop (c.loop-i.i + 1) l) ≤ length l - (c.loop-i.i + 1) = omega arith in
    let small : Small (get_or l c.loop-i.i (pos 0)) = search rules in
    told (seek_of (drop (c.loop-i.i + 1) l)) (get_or l c.loop-i.i (pos 0)) small (rw (take_all _ _ few) at c.seek.ensures)

pub returns-in_default : goal.returns-in_default
returns-in_default c =
    sym (twice c.args.ids.now c.loop-i.i c.loop-i-test.true (ap is_absent (sym (lookup c.before) ∙ c.in_default.is))) ∙ c.loop-i.invariant

pub loop-i-preserved : goal.loop-i-preserved
loop-i-preserved c =
    sym (once c.args.ids.now c.loop-i.i c.loop-i-test.true (ap is_absent (sym (lookup c.before) ∙ c.in-Absent.is))) ∙ c.loop-i.invariant

pub returns : goal.returns
unfolding distinct_of
returns c =
    simp (drop_of_length-le c.args.ids.now c.loop-i-test.false) at c.loop-i.invariant
