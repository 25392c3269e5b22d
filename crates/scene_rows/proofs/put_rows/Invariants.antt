-- `scene_rows::put_rows` meets its contract: the rows passed so far are laid. Assumes nothing.
use mathlib.Core.Path.{◌≡◌}
use lib.ListN.{length}
use Rattle.scene_rows.specs.Digits.{Laid}
use Rattle.scene_rows.proofs.put_rows.Given as goal

abbrev pub invariant-loop-i : goal.invariant-loop-i
invariant-loop-i l = ((length l.ids ≡ length l.initial.ids) × (length l.boxes ≡ length l.initial.boxes)) × Laid l.rows l.first l.i l.ids l.boxes
