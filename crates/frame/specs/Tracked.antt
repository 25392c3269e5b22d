-- Every object in use was tracked in no more frames than it was there. Refusal 1 doesn't ask it of a state that is handed in.
use Rattle.lifecycle.specs.Tracked.{Within}
use Rattle.slots.specs.declared.Slot.{Slot}
use Rattle.slots.specs.Every.{Every}
use Rattle.rows.specs.declared.ExtendedMOTAccumulator.{ExtendedMOTAccumulator}

abbrev pub TrackedWithin : ExtendedMOTAccumulator → Type 0
TrackedWithin s = Every (λ (x : Slot). Within x.lifecycle) s.slots s.used
