-- A frame's booking without any bound: a table that grows with every new id, and counters that grow past every type. Refusals
-- 5 and 7 speak of what would come of it: document 01's final values.
use Rattle.std.specs.Prelude.{Option, None, Some}
use Rattle.std.specs.Prelude.{Bool, true, false, ◌&&◌, cond, List, [], ◌∷◌, ◌++◌, map, ℕ, zero, suc, ◌+◌, ltb, ℤ, length, get_or, set, take}
use Rattle.counts.specs.Counts.{one_if}
use Rattle.lifecycle.specs.Lifecycle.{matched_after, missed_after, counts_fit}
use Rattle.slots.specs.declared.Slot.{Slot}
use Rattle.ids.specs.declared.Lookup.{Lookup}
use Rattle.ids.specs.declared.Lookup.TheVariants.{At, Absent}
use Rattle.ids.specs.Ids.{seek_of}
use Rattle.slots.specs.Slots.{new_slot, no_slot, id_of, switches}
use Rattle.rows.specs.declared.ExtendedMOTAccumulator.{ExtendedMOTAccumulator}
use Rattle.rows.specs.declared.Row.{Row}
use Rattle.frame.specs.Frame.{room_for_all, shares_of, next_frame}

-- a slot after a miss or a match, whatever its counts
abbrev pub next_slot : Slot → Option ℤ → ℤ → Slot
next_slot s None f = record { lifecycle = missed_after s.lifecycle f; partner = s.partner }
next_slot s (Some to) f = record { lifecycle = matched_after s.lifecycle f; partner = Some to }

abbrev pub switch_of : Slot → Option ℤ → Bool
switch_of s None = false
switch_of s (Some to) = switches s.partner to

-- the slots in use, and the switches of the frame
pub record Tally : Type 0 where
  pub slots : List Slot
  pub switches : ℕ

abbrev pub tally_of : List Slot → ℕ → Tally
tally_of slots n = record { slots = slots; switches = n }

unfoldable pub tally_at : ℤ → Row → Tally → Lookup → Tally
tally_at f r t (At k) =
    let s = get_or t.slots k no_slot in
    tally_of (set t.slots k (next_slot s r.to f)) (t.switches + one_if (switch_of s r.to))
tally_at f r t Absent =
    let s = new_slot r.id f in
    tally_of (t.slots ++ (next_slot s r.to f ∷ [])) (t.switches + one_if (switch_of s r.to))

abbrev pub tally_row : ℤ → Row → Tally → Tally
tally_row f r t = tally_at f r t (seek_of (map id_of t.slots) r.id)

unfoldable pub tally_after : (ℕ → Row) → ℤ → List Slot → ℕ → Tally
tally_after rows f l zero = tally_of l 0
tally_after rows f l (suc k) = tally_row f (rows k) (tally_after rows f l k)

-- none of the slots' counts has passed
unfoldable pub all_fit : List Slot → Bool
all_fit [] = true
all_fit (s ∷ ss) = counts_fit s.lifecycle && all_fit ss

-- 5: the table would hold more than 256 ids. 7: a count of a slot, or a counter of the frame, would pass
abbrev pub final_no : ExtendedMOTAccumulator → ℕ → ℕ → ℕ → ℕ → Tally → ℕ
final_no s pairs lefts extra objects u =
    cond (ltb 256 (length u.slots)) 5
    (cond (all_fit u.slots) (cond (room_for_all s (shares_of pairs lefts extra u.switches objects)) 0 7) 7)

abbrev pub final_tally : ExtendedMOTAccumulator → (ℕ → Row) → ℕ → Tally
final_tally s rows n = tally_after rows (next_frame s.frame_id) (take s.used s.slots) n
