-- Document 01, "Boxes": what is said of one box.
use Rattle.std.specs.Prelude.{Bool, ◌||◌, Float}
use Rattle.std.specs.Float.{binary64}
use Rattle.std.specs.Float.Ieee.{sub, mul, le}
use Rattle.boxes.specs.declared.Box.{Box}

-- refusal 4: x_max <= x_min or y_max <= y_min, both false where a NaN stands
unfoldable pub bad_box : Box → Bool
bad_box b = le b.x_max b.x_min || le b.y_max b.y_min

unfoldable pub area_of : Box → Float
area_of b = mul binary64 (sub binary64 b.x_max b.x_min) (sub binary64 b.y_max b.y_min)
