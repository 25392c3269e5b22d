-- What every state that the code can hold has, sound or not: its table's 256 places, and in use only counts that an i32 holds.
use Rattle.std.specs.Prelude.{◌≡◌, true, length}
use Rattle.lifecycle.specs.Lifecycle.{counts_fit}
use Rattle.slots.specs.declared.Slot.{Slot}
use Rattle.slots.specs.Every.{Every}
use Rattle.rows.specs.declared.ExtendedMOTAccumulator.{ExtendedMOTAccumulator}

pub record Held (s : ExtendedMOTAccumulator) : Type 0 where
  pub long : length s.slots ≡ 256
  pub fit : Every (λ (x : Slot). counts_fit x.lifecycle ≡ true) s.slots s.used
