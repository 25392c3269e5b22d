-- Where an id stands in a run of ids, and that none stands twice.
use Rattle.std.specs.Prelude.{Bool, true, false, ◌&&◌, cond, List, [], ◌∷◌, ℕ, suc, ℤ}
use Rattle.counts.specs.Counts.{same_id}
use Rattle.ids.specs.declared.Lookup.{Lookup}
use Rattle.ids.specs.declared.Lookup.TheVariants.{At, Absent}

-- the first place that holds the id, places counted from i on
unfoldable pub seek_from : ℕ → List ℤ → ℤ → Lookup
seek_from i [] id = Absent
seek_from i (x ∷ xs) id = cond (same_id x id) (At i) (seek_from (suc i) xs id)

abbrev pub seek_of : List ℤ → ℤ → Lookup
seek_of ids id = seek_from 0 ids id

abbrev pub is_absent : Lookup → Bool
is_absent (At k) = false
is_absent Absent = true

-- no id twice
unfoldable pub distinct_of : List ℤ → Bool
distinct_of [] = true
distinct_of (x ∷ xs) = is_absent (seek_of xs x) && distinct_of xs
