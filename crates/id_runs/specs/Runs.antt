-- Runs of ids that are lent: whether more find room, the ids of a frame's pairs, places cleared.
use Rattle.std.specs.Prelude.{Bool, not, List, ◌++◌, map, ℕ, ◌-◌, ◌/◌, ltb, ℤ, pos, length, take, get_or, replicate}
use Rattle.seen.specs.Seen.{over, seen_all}

-- whether ids find room
abbrev pub fit_in : ℕ → List ℤ → List ℤ → Bool
fit_in room known ids = not (ltb room (length (seen_all known ids)))

-- the truth ids of places of a matrix with w columns
abbrev pub row_ids_of : List ℤ → ℕ → List ℕ → List ℤ
row_ids_of truths w ks = map (λ (k : ℕ). get_or truths (k / w) (pos 0)) ks

-- 0 at the places from one on and before another
abbrev pub cleared : List ℤ → ℕ → ℕ → List ℤ
cleared run from to = over (take from run ++ replicate (to - from) (pos 0)) run
