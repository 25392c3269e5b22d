-- Ids in order of first appearance, first without a bound and then in a run of so many places. Refusal 5 speaks of the first:
-- "after the frame a table would hold more distinct ids than it can".
use Rattle.std.specs.Prelude.{Bool, true, false, cond, ◌&&◌, List, [], ◌∷◌, ◌++◌, ℕ, ◌+◌, ltb, leb, ℤ, pos, length, take, drop, replicate, Option, Some, None}
use Rattle.ids.specs.declared.Lookup.{Lookup}
use Rattle.ids.specs.declared.Lookup.TheVariants.{At, Absent}
use Rattle.ids.specs.Ids.{seek_of, distinct_of}
use Rattle.seen.specs.declared.Hypotheses.{Hypotheses}

-- ---- without a bound
-- one id: it stays where it stands, or comes after the others
unfoldable pub seen_at : List ℤ → ℤ → Lookup → List ℤ
seen_at l id (At k) = l
seen_at l id Absent = l ++ (id ∷ [])

abbrev pub seen_one : List ℤ → ℤ → List ℤ
seen_one l id = seen_at l id (seek_of l id)

-- these ids, in order
unfoldable pub seen_all : List ℤ → List ℤ → List ℤ
seen_all l [] = l
seen_all l (id ∷ ids) = seen_all (seen_one l id) ids

-- ---- in a run
-- how many places are used in the end, and whether an id found none
pub record Seen : Type 0 where
  pub used : ℕ
  pub full : Bool

-- an answer, read as what was seen: none where every one of so many places is used and an id found none
abbrev pub places_seen : ℕ → Option ℕ → Seen
places_seen room None = record { used = room; full = true }
places_seen room (Some n) = record { used = n; full = false }

abbrev pub place_of : Lookup → ℕ → ℕ
place_of (At k) used = k
place_of Absent used = used

abbrev pub used_with : Lookup → ℕ → ℕ
used_with (At k) used = used
used_with Absent used = used + 1

-- a list over the first places of a run; the later ones keep what they held
abbrev pub over {ℓ} : {A : Type ℓ} → List A → List A → List A
over l run = l ++ drop (length l) run

-- as many of these ids as there is room for: full where that isn't all
unfoldable pub seen_of : ℕ → List ℤ → Seen
seen_of room l = record { used = length (take room l); full = ltb room (length l) }

unfoldable pub run_after : List ℤ → List ℤ → List ℤ
run_after run l = over (take (length run) l) run

-- ---- the hypotheses seen, 1,024 at most
-- the hypotheses with a frame's: full where they would be more than 1,024, and then those that came
pub record SeenHypotheses : Type 0 where
  pub full : Bool
  pub hypotheses : Hypotheses

-- an answer, read as what was seen: none where those that came, h, stay
abbrev pub hypotheses_seen : Hypotheses → Option Hypotheses → SeenHypotheses
hypotheses_seen h None = record { full = true; hypotheses = h }
hypotheses_seen h (Some g) = record { full = false; hypotheses = g }

abbrev pub hypotheses_of : List ℤ → ℕ → Hypotheses
hypotheses_of ids used = record { ids = ids; used = used }

abbrev pub new_hypotheses : Hypotheses
new_hypotheses = hypotheses_of (replicate 1024 (pos 0)) 0

-- the ids in use
abbrev pub seen_by : Hypotheses → List ℤ
seen_by h = take h.used h.ids

abbrev pub with_seen : Hypotheses → List ℤ → SeenHypotheses
with_seen h l =
    cond (ltb 1024 (length l)) (record { full = true; hypotheses = h })
    (record { full = false; hypotheses = hypotheses_of (over l h.ids) (length l) })

unfoldable pub seen_hypotheses : Hypotheses → List ℤ → SeenHypotheses
seen_hypotheses h ids = with_seen h (seen_all (seen_by h) ids)

-- refusal 1: a used count within the capacity, and no id twice in the used places
abbrev pub ids_up_to : ℕ → List ℤ → ℕ → Bool
ids_up_to most ids used = leb used most && distinct_of (take used ids)

unfoldable pub hypotheses_sound : Hypotheses → Bool
hypotheses_sound h = ids_up_to 1024 h.ids h.used
