-- How the code sorts a longer run: by merging two halves, entry by entry.
use Rattle.std.specs.Prelude.{Bool, true, false, not, cond, List, [], ◌∷◌, ℕ, Float}
use Rattle.std.specs.Float.Ieee.{lt}
use Rattle.sorting.specs.Order.{key_of}

-- two runs merged: the next entry of the first, unless the next of the second has a key below its own
unfoldable pub merge_of : List Float → List ℕ → List ℕ → List ℕ
merge_of keys [] b = b
merge_of keys (p ∷ a) [] = p ∷ a
merge_of keys (p ∷ a) (q ∷ b) = cond (lt (key_of keys q) (key_of keys p)) (q ∷ merge_of keys (p ∷ a) b) (p ∷ merge_of keys a (q ∷ b))

-- the next entry is the first run's
unfoldable pub first_next : List Float → List ℕ → List ℕ → Bool
first_next keys [] b = false
first_next keys (p ∷ a) [] = true
first_next keys (p ∷ a) (q ∷ b) = not (lt (key_of keys q) (key_of keys p))
