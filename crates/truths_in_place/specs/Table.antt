-- Truth ids and their last partners in a run of 768 numbers, three columns of 256: the ids, whether the partner is known, the partner.
-- Definitions of what the run stands for, and of every number that a frame writes there.
use Rattle.std.specs.Prelude.{◌≡◌, Option, List, [], ◌∷◌, ℕ, zero, suc, ◌+◌, ℤ, pos, length, take}
use Rattle.slot_cells.specs.Cells.{partner_of}
use Rattle.columns.specs.Columns.{cell, put_all}
use Rattle.ids.specs.declared.Lookup.{Lookup}
use Rattle.ids.specs.Ids.{seek_of}
use Rattle.seen.specs.Seen.{over, place_of, used_with, seen_all}
use Rattle.partners.specs.declared.Truths.{Truths}
use Rattle.partners.specs.Partners.{truths_of, Pair, booked_of, seen_truths}
use Rattle.id_runs.specs.Runs.{cleared}
use Rattle.truths_in_place.specs.declared.Matched.{Matched}

-- ---- what the run stands for
abbrev pub last_from : ℤ → ℤ → Option ℤ
last_from known partner = partner_of known partner

unfoldable pub last_at : List ℤ → ℕ → Option ℤ
last_at table k = last_from (cell table 256 k 1) (cell table 256 k 2)

unfoldable pub lasts_from : List ℤ → ℕ → ℕ → List (Option ℤ)
lasts_from table i zero = []
lasts_from table i (suc n) = last_at table i ∷ lasts_from table (suc i) n

-- THE TABLE that the run stands for
abbrev pub truths_in : List ℤ → ℕ → Truths
truths_in table used = truths_of (take 256 table) (lasts_from table 0 256) used

-- ---- the pairs of a frame
abbrev pub found_in : List ℤ → ℕ → Pair → Lookup
found_in table used p = seek_of (take used table) p.truth

-- one pair: the three numbers of its place, and no other
abbrev pub put_pair : List ℤ → ℕ → Pair → List ℤ
put_pair table used p = put_all table 256 (place_of (found_in table used p) used) (p.truth ∷ (pos 1 ∷ (p.hypothesis ∷ [])))

unfoldable pub pairs_put : List ℤ → ℕ → List Pair → List ℤ
pairs_put table used [] = table
pairs_put table used (p ∷ ps) = pairs_put (put_pair table used p) (used_with (found_in table used p) used) ps

-- THE PAIRS, BOOKED where there is room: the table and the switches of `booked_of`, and every number of the run
pub record MatchesBooked (table : List ℤ) (used : ℕ) (ps : List Pair) (after : List ℤ) (r : Matched) : Type 0 where
  pub truths : truths_in after r.used ≡ (booked_of (truths_in table used) ps).truths
  pub switched : r.switched ≡ (booked_of (truths_in table used) ps).switched
  pub numbers : after ≡ pairs_put table used ps

-- ---- the truth ids of a frame, seen
-- these ids in the first column, and beside each that is new no partner
unfoldable pub seen_put : List ℤ → ℕ → List ℤ → List ℤ
seen_put table used l = cleared (cleared (over l table) (256 + used) (256 + length l)) (512 + used) (512 + length l)

-- THE TRUTH IDS, SEEN where there is room: the table of `seen_truths`, how many they are, and every number of the run
pub record TruthsSeen (table : List ℤ) (used : ℕ) (ids : List ℤ) (after : List ℤ) (r : ℕ) : Type 0 where
  pub truths : truths_in after r ≡ (seen_truths (truths_in table used) ids).truths
  pub count : r ≡ length (seen_all (take used table) ids)
  pub numbers : after ≡ seen_put table used (seen_all (take used table) ids)
