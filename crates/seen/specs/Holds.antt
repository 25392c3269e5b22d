-- That an id stands in a list, read without a computation.
use Rattle.std.specs.Prelude.{◌≡◌, List, ℕ, ◌<◌, ℤ, pos, length, get_or}

pub record Holds (l : List ℤ) (id : ℤ) : Type 0 where
  pub place : ℕ
  pub within : place < length l
  pub there : get_or l place (pos 0) ≡ id
