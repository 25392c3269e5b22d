-- What holds of every slot in use.
use Rattle.std.specs.Prelude.{List, ℕ, ◌<◌, get_or}
use Rattle.slots.specs.declared.Slot.{Slot}
use Rattle.slots.specs.Slots.{no_slot}

abbrev pub Every : (Slot → Type 0) → List Slot → ℕ → Type 0
Every P slots used = (i : ℕ) → i < used → P (get_or slots i no_slot)
