-- The events before the index are counted.
use Rattle.std.proofs.Common.{◌≤◌, length, take, refl, arith, length-take}
use lib.Ieee.{of_bits}
use Rattle.events.proofs.Tallies.{tally_none, tally_more, room_left}
use Rattle.events.proofs.tallied.Goals as goal

pub loop-event-init : goal.loop-event-init
unfolding of_bits
loop-event-init c = tally_none _ refl

pub added-t-requires : goal.added-t-requires
added-t-requires c =
    let used = take c.args.used c.args.events in
    let few : length used ≤ 1024 = omega (arith, length-take c.args.used c.args.events) in
    room_left used c.loop-event.event-index c.loop-event.t few c.loop-event-test.true c.loop-event.invariant

pub loop-event-preserved : goal.loop-event-preserved
loop-event-preserved c =
    tally_more (take c.args.used c.args.events) c.loop-event.event-index c.loop-event.t c.added-t.result c.loop-event-test.true c.loop-event.invariant c.added-t.ensures
