-- A stable sort by insertion, as a definition to compute with: Order.antt's promise holds of it and of no other list.
use Rattle.std.specs.Prelude.{cond, List, [], ◌∷◌, map, ℕ, Float}
use Rattle.std.specs.Float.Ieee.{lt, neg}
use Rattle.sorting.specs.Order.{key_of}

-- k put in before the first entry whose key is above its own
unfoldable pub put : List Float → ℕ → List ℕ → List ℕ
put keys k [] = k ∷ []
put keys k (j ∷ l) = cond (lt (key_of keys k) (key_of keys j)) (k ∷ (j ∷ l)) (j ∷ put keys k l)

-- the entries of l put into those of m, one after the other
unfoldable pub put_all : List Float → List ℕ → List ℕ → List ℕ
unfolding put
put_all keys [] m = m
put_all keys (k ∷ l) m = put_all keys l (put keys k m)

-- ascending
unfoldable pub sort_of : List Float → List ℕ → List ℕ
unfolding put_all
sort_of keys l = put_all keys l []

-- descending: ascending by the negated keys
abbrev pub fall_of : List Float → List ℕ → List ℕ
fall_of keys l = sort_of (map neg keys) l
