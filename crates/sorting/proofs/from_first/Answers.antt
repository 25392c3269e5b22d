-- `sorting::from_first` meets its contract.
use Rattle.sorting.proofs.MergeTurns.{no_first, no_second, both_there}
use Rattle.sorting.proofs.from_first.Goals as goal

pub returns-in-None-default : goal.returns-in-None-default
returns-in-None-default c = no_first c.args.keys.now c.args.a.now c.args.b.now c.in-None-default.ensures.value

pub returns-in-Some-None : goal.returns-in-Some-None
returns-in-Some-None c = let s = c.in-Some-None in no_second c.args.keys.now c.args.a.now c.args.b.now s.field-0-0.now s.ensures.value s.ensures'.value

pub returns-in-Some-Some : goal.returns-in-Some-Some
returns-in-Some-Some c =
    let s = c.in-Some-Some in
    both_there c.args.keys.now c.args.a.now c.args.b.now s.p.now s.q.now _ _ s.ensures.value s.ensures'.value c.key_at-y.ensures c.key_at-x.ensures
