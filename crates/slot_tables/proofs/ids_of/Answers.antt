-- `slot_tables::ids_of` meets its contract. The first i places hold the ids of the first i slots. Assumes nothing.
use Rattle.std.proofs.Common.{rules, arith, ◌≡◌, ◌<◌, length, take, get_or}
use Rattle.counts.proofs.Ids.{Small, back}
use Rattle.slots.specs.Slots.{id_of, no_slot}
use Rattle.slots.proofs.Tables.{ids_more}
use Rattle.slot_tables.proofs.ids_of.Goals as goal
use lib.Seq.{get_or-take}
use mathlib.Core.Path.{ap, ◌∙◌}

pub loop-i-preserved : goal.loop-i-preserved
loop-i-preserved c =
    let s = c.args.slots.now in
    let t = take c.args.used s in
    let n : length s ≡ 256 = search rules in
    let k : c.loop-i.i < c.args.used = (let h = c.loop-i-test.true in let r = c.requires in search rules) in
    let small : Small (id_of (get_or t c.loop-i.i no_slot)) = search rules in
    let r = c.requires in
    ids_more s c.loop-i.ids c.loop-i.i _ n (omega arith) c.loop-i.invariant
    (back (id_of (get_or t c.loop-i.i no_slot)) small ∙ ap id_of (get_or-take c.args.used s c.loop-i.i no_slot k))
