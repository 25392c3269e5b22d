-- `slot_tables::ids_of` meets its contract. The first i places hold the ids of the first i slots. Assumes nothing.
use Rattle.std.proofs.Common.{◌≡◌}
use Rattle.slots.specs.Slots.{ids_filled}
use Rattle.slot_tables.proofs.ids_of.Given as goal

abbrev pub invariant-loop-i : goal.invariant-loop-i
invariant-loop-i l = l.ids ≡ ids_filled l.slots l.i
