-- Floats as they are written. Assumes nothing.
use Rattle.std.specs.Prelude.{false, cond, Float, pos}
use Rattle.std.specs.Float.{fin}
use Rattle.std.specs.Float.Ieee.{eq}

-- a zero without its sign
unfoldable pub unsigned : Float → Float
unsigned x = cond (eq x (fin false 0 (pos 0))) (fin false 0 (pos 0)) x
