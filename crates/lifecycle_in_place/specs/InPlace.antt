-- What a call in place leaves, as one answer: the number that it gives and the record that stands there after it. Definitions only.
use Rattle.std.specs.Prelude.{ℕ}
use Rattle.lifecycle.specs.declared.TrackLifecycle.{TrackLifecycle}
use Rattle.lifecycle.specs.declared.Updated.{Updated}

abbrev pub answer : ℕ → TrackLifecycle → Updated
answer number after = record { number = number; lifecycle = after }
