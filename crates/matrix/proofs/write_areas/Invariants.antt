-- `matrix::write_areas` meets its contract. The invariant: the places before k hold their boxes' areas. Assumes nothing.
use mathlib.Core.Path.{◌≡◌}
use lib.ListN.{length}
use Rattle.matrix.specs.Matrix.{AreasOf}
use Rattle.matrix.proofs.write_areas.Given as goal

abbrev pub invariant-loop-k : goal.invariant-loop-k
invariant-loop-k l = (length l.areas ≡ 64) × AreasOf l.run l.areas l.k
