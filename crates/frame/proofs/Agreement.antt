-- The trial booking and the unbounded one, row by row. Where no flag is up the tables are the same and every count fits; where
-- `over` alone is up the ids are the same and some count has passed; where `full` is up there are more ids than places. Assumes nothing.
use mathlib.Core.Path.{◌≡◌, refl, sym, ap, ◌∙◌, subst}
use mathlib.Core.Bool.{Bool, true, false, cond, ◌||◌}
use mathlib.Core.List.{List, [], ◌∷◌, ◌++◌, map, map-append}
use Prim.Native.Nat.{ℕ, ◌<◌, ◌≤◌, ◌+◌}
use native.Mathlib.Omega.{arith}
use native.Mathlib.Numerals.{add-one}
use borrow.Author.Tests.{ltb-true, ltb-false}
use lib.Dec.{ltb}
use lib.IntN.{ℤ}
use lib.ListN.{length, take, set, get_or, length-append, length-map, length-set}
use lib.Seq.{take-set-lt, take-suc-set, map-set_same, get_or-take}
use Rattle.counts.specs.Counts.{one_if}
use Rattle.lifecycle.specs.Lifecycle.{counts_fit}
use Rattle.slots.specs.declared.Slot.{Slot}
use Rattle.ids.specs.declared.Lookup.{Lookup}
use Rattle.ids.specs.declared.Lookup.TheVariants.{At, Absent}
use Rattle.ids.specs.Ids.{seek_of}
use Rattle.slots.specs.Slots.{BookedSlot, new_slot, no_slot, id_of, ids_of, booked_slot}
use Rattle.ids.proofs.Lookups.{found_below}
use Rattle.slots.proofs.Tables.{ids_long}
use Rattle.slots.proofs.Kept.{booked_id}
use Rattle.rows.specs.declared.ExtendedMOTAccumulator.{ExtendedMOTAccumulator}
use Rattle.rows.specs.declared.Row.{Row}
use Rattle.rows.specs.Rows.{Spot, spot_of, step_of, with_slot}
use Rattle.rows.proofs.Booking.{put_back}
use Rattle.frame.specs.Unbounded.{Tally, next_slot, switch_of, tally_at, tally_row, all_fit}
use Rattle.frame.proofs.Fitting.{next_id, booked_fits, booked_past, new_fits, new_next_fits, fit_at, fit_set, past_set, past_stays, fit_more, past_more}

abbrev pub Agrees : Bool → Bool → ExtendedMOTAccumulator → ℕ → Tally → Type 0
Agrees true over s n u = 256 < length u.slots
Agrees false true s n u = (map id_of u.slots ≡ ids_of s.slots s.used) × (all_fit u.slots ≡ false)
Agrees false false s n u = (u.slots ≡ take s.used s.slots) × (all_fit u.slots ≡ true) × (n ≡ u.switches)

-- a booking never takes a slot away
grown : (f : ℤ) (r : Row) (u : Tally) (o : Lookup) → length u.slots ≤ length (tally_at f r u o).slots
unfolding tally_at
grown f r u (At k) = let e = length-set u.slots k (next_slot (get_or u.slots k no_slot) r.to f) in omega arith
grown f r u Absent = let e = length-append u.slots (next_slot (new_slot r.id f) r.to f ∷ []) in omega arith

pub full_stays : (f : ℤ) (r : Row) (u : Tally) → 256 < length u.slots → 256 < length (tally_row f r u).slots
full_stays f r u h = let g = grown f r u (seek_of (map id_of u.slots) r.id) in omega arith

module _ (s : ExtendedMOTAccumulator) (r : Row) (f : ℤ) (u : Tally) (n : ℕ) (l : length s.slots ≡ 256) (h : s.used ≤ 256) where
  pub same_ids : (over : Bool) → Agrees false over s n u → map id_of u.slots ≡ ids_of s.slots s.used
  same_ids true a = a.0
  same_ids false a = ap (map id_of) a.0

  pub same_long : (over : Bool) → Agrees false over s n u → length u.slots ≡ s.used
  same_long over a = sym (length-map u.slots id_of) ∙ (ap length (same_ids over a) ∙ ids_long s.slots s.used (omega arith))

  -- what the row leaves, given where it is booked
  abbrev Next : Bool → Spot → Tally → Type 0
  Next over sp v =
      let p = step_of sp (get_or s.slots sp.at no_slot) s.used r f in
      Agrees p.full (over || p.over) (with_slot s sp.at p.slot p.used) (n + one_if p.switched) v

  -- ---- at the id's own place
  module _ (k : ℕ) (p : k < s.used) where
    abbrev here : Slot
    here = get_or s.slots k no_slot

    abbrev there : Slot
    there = get_or u.slots k no_slot

    ids_after : (over : Bool) → Agrees false over s n u → (x : Slot) → id_of x ≡ id_of here → map id_of (set u.slots k (next_slot there r.to f)) ≡ ids_of (set s.slots k x) s.used
    ids_after over a x e =
        map-set_same id_of u.slots k (next_slot there r.to f) no_slot (next_id there r.to f)
        ∙ (same_ids over a ∙ sym (put_back s.slots s.used l h k x p e))

    same_slot : Agrees false false s n u → there ≡ here
    same_slot a = ap (λ (ys : List Slot). get_or ys k no_slot) a.0 ∙ get_or-take s.used s.slots k no_slot p

    abbrev Left : BookedSlot → Type 0
    Left b = Agrees false b.over (with_slot s k b.slot s.used) (n + one_if b.switched) (tally_at f r u (At k))

    by_counts : (a : Agrees false false s n u) (b : Bool) → counts_fit (next_slot here r.to f).lifecycle ≡ b → Left (booked_slot here r.to f)
    unfolding tally_at
    by_counts a true e =
        let y = same_slot a in
        let m = same_long false a in
        let fit : counts_fit here.lifecycle ≡ true = ap (λ (z : Slot). counts_fit z.lifecycle) (sym y) ∙ fit_at u.slots k a.1 (omega arith) in
        subst Left (sym (booked_fits here r.to f fit e)) (
          (λ i. set (a.0 i) k (next_slot (y i) r.to f)) ∙ sym (take-set-lt s.used s.slots k (next_slot here r.to f) p),
          fit_set u.slots k (next_slot there r.to f) a.1 (ap (λ (z : Slot). counts_fit (next_slot z r.to f).lifecycle) y ∙ e),
          λ i. a.2 i + one_if (switch_of (sym y i) r.to),
        )
    by_counts a false e =
        let y = same_slot a in
        let m = same_long false a in
        let fit : counts_fit here.lifecycle ≡ true = ap (λ (z : Slot). counts_fit z.lifecycle) (sym y) ∙ fit_at u.slots k a.1 (omega arith) in
        subst Left (sym (booked_past here r.to f fit e)) (
          ids_after false a here refl,
          past_set u.slots k (next_slot there r.to f) (omega arith) (ap (λ (z : Slot). counts_fit (next_slot z r.to f).lifecycle) y ∙ e),
        )

    pub found : (over : Bool) → Agrees false over s n u → Next over (spot_of (At k) s.used) (tally_at f r u (At k))
    unfolding spot_of step_of tally_at
    found true a = (ids_after true a (booked_slot here r.to f).slot (booked_id here r.to f), past_stays u.slots k r.to f a.1)
    found false a = by_counts a (counts_fit (next_slot here r.to f).lifecycle) refl

  -- ---- a new id
  abbrev new : Slot
  new = new_slot r.id f

  abbrev made : Slot
  made = next_slot new r.to f

  new_booked : booked_slot new r.to f ≡ record { slot = made; over = false; switched = switch_of new r.to }
  new_booked = booked_fits new r.to f (new_fits r.id f) (new_next_fits r.id r.to f)

  table_new : s.used < 256 → take (s.used + 1) (set s.slots s.used made) ≡ take s.used s.slots ++ (made ∷ [])
  table_new q = rw (add-one s.used) (take-suc-set s.slots s.used made (omega arith))

  abbrev Grown : Bool → BookedSlot → Type 0
  Grown over b = Agrees false (over || b.over) (with_slot s s.used b.slot (s.used + 1)) (n + one_if b.switched) (tally_at f r u Absent)

  fresh : s.used < 256 → (over : Bool) → Agrees false over s n u → Grown over (booked_slot new r.to f)
  unfolding tally_at
  fresh q true a =
      subst (Grown true) (sym new_booked) (
        map-append id_of u.slots (made ∷ [])
            ∙ (ap (λ (ys : List ℤ). ys ++ (id_of made ∷ [])) a.0
            ∙ (sym (map-append id_of (take s.used s.slots) (made ∷ [])) ∙ ap (map id_of) (sym (table_new q)))),
        past_more u.slots made a.1,
      )
  fresh q false a =
      subst (Grown false) (sym new_booked) (
        ap (λ (ys : List Slot). ys ++ (made ∷ [])) a.0 ∙ sym (table_new q),
        fit_more u.slots made a.1 (new_next_fits r.id r.to f),
        ap (λ (m : ℕ). m + one_if (switch_of new r.to)) a.2,
      )

  absent : (over : Bool) → Agrees false over s n u → (b : Bool) → ltb s.used 256 ≡ b
      → Next over (cond b (record { at = s.used; fresh = true; full = false }) (record { at = 0; fresh = false; full = true })) (tally_at f r u Absent)
  unfolding step_of tally_at
  absent over a true e = fresh (ltb-true s.used 256 e) over a
  absent over a false e =
      let q = ltb-false s.used 256 e in
      let m = same_long over a in
      let g = length-append u.slots (made ∷ []) in
      omega arith

  by_lookup : (over : Bool) → Agrees false over s n u → (o : Lookup) → seek_of (ids_of s.slots s.used) r.id ≡ o → Next over (spot_of o s.used) (tally_at f r u o)
  unfolding spot_of
  by_lookup over a (At k) e =
      let m = ids_long s.slots s.used (omega arith) in
      let q = found_below 0 (ids_of s.slots s.used) r.id k e in
      found k (omega arith) over a
  by_lookup over a Absent e = absent over a (ltb s.used 256) refl

  -- ONE ROW
  pub row_agrees : (over : Bool) → Agrees false over s n u → Next over (spot_of (seek_of (ids_of s.slots s.used) r.id) s.used) (tally_row f r u)
  row_agrees over a =
      subst (λ (ids : List ℤ). Next over (spot_of (seek_of (ids_of s.slots s.used) r.id) s.used) (tally_at f r u (seek_of ids r.id))) (sym (same_ids over a))
      (by_lookup over a (seek_of (ids_of s.slots s.used) r.id) refl)
