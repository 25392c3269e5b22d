-- Document 01, "Boxes": the area between two corners.
use Rattle.std.specs.Prelude.{cond, ◌||◌, Float}
use Rattle.std.specs.Float.{binary64}
use Rattle.std.specs.Float.Ieee.{sub, mul, lt}
use Rattle.floats.specs.Float.{zero64}

-- width times height, and 0 where a side is the wrong way round
unfoldable pub rectangle_of : Float → Float → Float → Float → Float
rectangle_of x0 y0 x1 y1 = cond (lt x1 x0 || lt y1 y0) zero64 (mul binary64 (sub binary64 x1 x0) (sub binary64 y1 y0))
