-- `ids_in_place::see_hypotheses` meets its contract. Assumes nothing.
use Rattle.std.proofs.Common.{◌≡◌, false, length, take}
use lib.Dec.{ltb}
use Rattle.seen.specs.Seen.{seen_all}
use Rattle.truths_in_place.proofs.Room.{hypotheses_seen, few, none_left, as_seen}
use Rattle.ids_in_place.proofs.see_hypotheses.Goals as goal

pub unwrap-requires : goal.unwrap-requires
unwrap-requires c =
    let n = c.requires.used_bound.1 in
    let l = seen_all (take c.args.used c.args.run.now) c.args.ids.now in
    let k : ltb (length c.args.run.now) (length l) ≡ false = rw n (few c.args.run.now n c.args.used c.args.ids.now c.requires.ids_value) in
    none_left (length c.args.run.now) l c.see_all.result c.see_all.ensures.0 k

pub returns : goal.returns
returns c =
    let l = seen_all (take c.args.used c.args.run.now) c.args.ids.now in
    let s = as_seen (length c.args.run.now) c.unwrap.result l c.see_all.result c.unwrap.ensures c.see_all.ensures.0 in
    hypotheses_seen c.args.run.now c.requires.used_bound.1 c.args.used c.args.ids.now c.requires.ids_value _ c.see_all.new.run s c.see_all.ensures.1
