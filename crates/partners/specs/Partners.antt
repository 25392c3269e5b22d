-- Document 01, "Lifecycles and events" and refusal 5: truth ids and their last partners over the pairs of a frame, first without a
-- bound and then in a table of 256 places.
use Rattle.std.specs.Prelude.{Option, None, Some, Bool, true, false, cond, List, [], ◌∷◌, ◌++◌, map, ℕ, ◌/◌, ◌%◌, ◌-◌, ltb, ℤ, pos, length, take, get_or, set, replicate}
use Rattle.ids.specs.declared.Lookup.{Lookup}
use Rattle.ids.specs.declared.Lookup.TheVariants.{At, Absent}
use Rattle.ids.specs.Ids.{seek_of}
use Rattle.slots.specs.Slots.{switches}
use Rattle.seen.specs.Seen.{over, seen_all, ids_up_to}
use Rattle.partners.specs.declared.Truths.{Truths}

abbrev pub nobody : Option ℤ
nobody = None

abbrev pub last_is : ℤ → Option ℤ
last_is to = Some to

abbrev pub truths_of : List ℤ → List (Option ℤ) → ℕ → Truths
truths_of ids lasts used = record { ids = ids; lasts = lasts; used = used }

abbrev pub new_truths : Truths
new_truths = truths_of (replicate 256 (pos 0)) (replicate 256 nobody) 0

-- ---- the pairs of a frame
-- a truth id, and the hypothesis id that it is matched to
pub record Pair : Type 0 where
  pub truth : ℤ
  pub hypothesis : ℤ

-- place k of the matrix, row by row
abbrev pub pair_at : List ℤ → List ℤ → ℕ → Pair
pair_at truths hypotheses k =
    record { truth = get_or truths (k / length hypotheses) (pos 0); hypothesis = get_or hypotheses (k % length hypotheses) (pos 0) }

abbrev pub pairs_of : List ℤ → List ℤ → List ℕ → List Pair
pairs_of truths hypotheses ks = map (pair_at truths hypotheses) ks

-- ---- without a bound: ids in order of first booking, and the last partner of each
pub record Table : Type 0 where
  pub ids : List ℤ
  pub lasts : List (Option ℤ)

abbrev pub last_in : Lookup → Option ℤ → Option ℤ
last_in (At k) last = last
last_in Absent last = None

abbrev pub last_at : List (Option ℤ) → Lookup → Option ℤ
last_at lasts (At k) = get_or lasts k nobody
last_at lasts Absent = None

-- the last partner of an id; nobody where the id has no place
abbrev pub last_of : Table → ℤ → Option ℤ
last_of t id = last_at t.lasts (seek_of t.ids id)

-- one pair: the id's own place is set, or it gets one after the others
unfoldable pub match_at : Table → Pair → Lookup → Table
match_at t p (At k) = record { ids = t.ids; lasts = set t.lasts k (last_is p.hypothesis) }
match_at t p Absent = record { ids = t.ids ++ (p.truth ∷ []); lasts = t.lasts ++ (last_is p.hypothesis ∷ []) }

abbrev pub match_one : Table → Pair → Table
match_one t p = match_at t p (seek_of t.ids p.truth)

-- all pairs, in order
unfoldable pub match_all : Table → List Pair → Table
match_all t [] = t
match_all t (p ∷ ps) = match_all (match_one t p) ps

-- and which of them are switches: "a match to a different id from that truth id's last one"
unfoldable pub switches_of : Table → List Pair → List Bool
switches_of t [] = []
switches_of t (p ∷ ps) = switches (last_of t p.truth) p.hypothesis ∷ switches_of (match_one t p) ps

-- ---- in a table of 256 places
-- the places in use
abbrev pub table_of : Truths → Table
table_of t = record { ids = take t.used t.ids; lasts = take t.used t.lasts }

-- these in the first places; the later ones keep what they held
abbrev pub with_table : Truths → Table → Truths
with_table t u = record { ids = over u.ids t.ids; lasts = over u.lasts t.lasts; used = length u.ids }

-- what the pairs of a frame come to: full where a new id would find no place, and then the table that came and no switch; else the
-- table after them, and for each pair, by its number, whether it is a switch
pub record Booked : Type 0 where
  pub full : Bool
  pub truths : Truths
  pub switched : List Bool

abbrev pub none : List Bool
none = replicate 64 false

abbrev pub booked_with : Truths → Table → List Bool → Booked
booked_with t u switched =
    cond (ltb 256 (length u.ids)) (record { full = true; truths = t; switched = none })
    (record { full = false; truths = with_table t u; switched = over switched none })

-- THE PAIRS OF A FRAME, BOOKED: full where the table would hold more than 256 ids
unfoldable pub booked_of : Truths → List Pair → Booked
booked_of t ps = booked_with t (match_all (table_of t) ps) (switches_of (table_of t) ps)

-- ---- the truth ids of a frame, seen
-- the table with them: full where they would be more than 256, and then the table that came
pub record SeenTruths : Type 0 where
  pub full : Bool
  pub truths : Truths

-- an answer, read as what was seen: none where the table that came, t, stays
abbrev pub truths_seen : Truths → Option Truths → SeenTruths
truths_seen t None = record { full = true; truths = t }
truths_seen t (Some u) = record { full = false; truths = u }

-- one that is new has no partner
abbrev pub seen_table : Table → List ℤ → Table
seen_table t l = record { ids = l; lasts = t.lasts ++ replicate (length l - length t.ids) nobody }

abbrev pub seen_with : Truths → List ℤ → SeenTruths
seen_with t l =
    cond (ltb 256 (length l)) (record { full = true; truths = t }) (record { full = false; truths = with_table t (seen_table (table_of t) l) })

unfoldable pub seen_truths : Truths → List ℤ → SeenTruths
seen_truths t ids = seen_with t (seen_all (table_of t).ids ids)

-- ---- refusal 1: a used count within the capacity, and no id twice in the used places
unfoldable pub ids_sound : List ℤ → ℕ → Bool
ids_sound ids used = ids_up_to 256 ids used

abbrev pub truths_sound : Truths → Bool
truths_sound t = ids_sound t.ids t.used
