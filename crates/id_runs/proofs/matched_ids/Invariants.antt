-- `id_runs::matched_ids` meets its contract. Assumes nothing.
use Rattle.std.proofs.Common.{◌≡◌, length, take}
use Rattle.id_runs.specs.Runs.{row_ids_of}
use Rattle.id_runs.proofs.matched_ids.Given as goal

abbrev pub invariant-loop-i : goal.invariant-loop-i
invariant-loop-i l = (length l.ids ≡ 64) × (take l.i l.ids ≡ row_ids_of l.object_ids l.w (take l.i l.pairs))
