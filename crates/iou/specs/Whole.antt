-- Boxes whose coordinates are whole numbers from -32,767 to 32,767, and their areas over the integers.
use Rattle.std.specs.Prelude.{◌≤◌, ℤ, pos, nat_abs, ◌+ℤ◌, ◌-ℤ◌, ◌*ℤ◌}
use Rattle.floats.specs.Whole.{IsWhole, min_z, max_z}
use Rattle.boxes.specs.declared.Box.{Box}

pub record Corners : Type 0 where
  pub x0 : ℤ
  pub y0 : ℤ
  pub x1 : ℤ
  pub y1 : ℤ

-- every coordinate lies in document 01's range
pub record InRange (k : Corners) : Type 0 where
  pub x0_in : nat_abs k.x0 ≤ 32767
  pub y0_in : nat_abs k.y0 ≤ 32767
  pub x1_in : nat_abs k.x1 ≤ 32767
  pub y1_in : nat_abs k.y1 ≤ 32767

-- the box b has the corners k; a zero may have either sign
pub record HasCorners (b : Box) (k : Corners) : Type 0 where
  pub x0_is : IsWhole b.x_min k.x0
  pub y0_is : IsWhole b.y_min k.y0
  pub x1_is : IsWhole b.x_max k.x1
  pub y1_is : IsWhole b.y_max k.y1

abbrev pub area_z : Corners → ℤ
area_z k = (k.x1 -ℤ k.x0) *ℤ (k.y1 -ℤ k.y0)

-- how far two runs of whole numbers overlap, 0 where they lie apart
abbrev pub overlap_z : ℤ → ℤ → ℤ → ℤ → ℤ
overlap_z a0 a1 b0 b1 = max_z (min_z a1 b1 -ℤ max_z a0 b0) (pos 0)

abbrev pub intersection_z : Corners → Corners → ℤ
intersection_z a b = overlap_z a.x0 a.x1 b.x0 b.x1 *ℤ overlap_z a.y0 a.y1 b.y0 b.y1

abbrev pub union_z : Corners → Corners → ℤ
union_z a b = area_z a +ℤ area_z b -ℤ intersection_z a b
