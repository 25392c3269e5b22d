-- The events before the index are counted.
use Rattle.std.proofs.Common.{◌≡◌, take}
use Rattle.events.specs.Events.{tally_of}
use Rattle.events.proofs.tallied.Given as goal

abbrev pub invariant-loop-event : goal.invariant-loop-event
invariant-loop-event l = l.t ≡ tally_of (take l.event-index l.event-items)
