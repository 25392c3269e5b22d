-- `extended_flat::counts_sound` meets its contract. What was met so far and the counts from place i on decide what all of them do. Assumes nothing.
use mathlib.Core.Path.{◌≡◌}
use mathlib.Core.Bool.{◌&&◌}
use lib.ListN.{take, drop}
use Rattle.slots.specs.Slots.{counts_sound}
use Rattle.columns.specs.Columns.{slots_of}
use Rattle.extended_flat.proofs.counts_sound.Given as goal

abbrev pub invariant-loop-i : goal.invariant-loop-i
invariant-loop-i l = (l.all && counts_sound (drop l.i (take l.used (slots_of l.run)))) ≡ counts_sound (take l.used (slots_of l.run))
