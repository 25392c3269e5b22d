-- One turn of the booking: its place lies in the table, and the array of ids follows the slots. Assumes nothing.
use mathlib.Core.Path.{◌≡◌, refl, sym, ap, ◌∙◌}
use mathlib.Core.Bool.{Bool, true, false, cond, ◌||◌}
use mathlib.Core.List.{List, ◌++◌, map}
use Prim.Native.Nat.{ℕ, zero, suc, ◌<◌, ◌≤◌, ◌+◌, ◌-◌}
use native.Mathlib.Omega.{arith}
use native.Mathlib.Numerals.{add-one}
use borrow.Author.Tests.{ltb-true, ltb-false}
use lib.Dec.{ltb, lit<}
use lib.IntN.{ℤ, pos}
use lib.ListN.{length, take, set, get_or, replicate, length-set, get_or-append}
use lib.Seq.{set-get_or, take-set-lt, take-set-le, map-set_same, get_or-take, get_or-set_same}
use Rattle.counts.specs.Counts.{one_if}
use Rattle.slots.specs.declared.Slot.{Slot}
use Rattle.ids.specs.declared.Lookup.{Lookup}
use Rattle.ids.specs.declared.Lookup.TheVariants.{At, Absent}
use Rattle.ids.specs.Ids.{seek_of}
use Rattle.slots.specs.Slots.{no_slot, new_slot, id_of, ids_of, ids_filled, booked_slot}
use Rattle.ids.proofs.Lookups.{found_below}
use Rattle.slots.proofs.Tables.{ids_long, ids_more}
use Rattle.slots.proofs.Faults.{id_at}
use Rattle.slots.proofs.Kept.{booked_id}
use Rattle.rows.specs.declared.ExtendedMOTAccumulator.{ExtendedMOTAccumulator}
use Rattle.rows.specs.declared.Row.{Row}
use Rattle.rows.specs.declared.Step.{Step}
use Rattle.rows.specs.declared.Trial.{Trial}
use Rattle.rows.specs.Rows.{Spot, spot_of, row_spot, step_of, row_step, with_slot, trial_of, stepped, book_row, trial_after}

pub few_more : (b : Bool) (n k : ℕ) → n ≤ k → n + one_if b ≤ k + 1
few_more true n k h = omega arith
few_more false n k h = omega arith

-- ---- the array of ids, where one slot is put
module _ (slots : List Slot) (used : ℕ) (l : length slots ≡ 256) (h : used ≤ 256) where
  -- in place of one with the same id
  pub put_back : (k : ℕ) (x : Slot) → k < used → id_of x ≡ id_of (get_or slots k no_slot) → ids_of (set slots k x) used ≡ ids_of slots used
  put_back k x p e =
      ap (map id_of) (take-set-lt used slots k x p)
      ∙ map-set_same id_of (take used slots) k x no_slot (e ∙ ap id_of (sym (get_or-take used slots k no_slot p)))

  same_there : (k : ℕ) → k < used → get_or (ids_filled slots used) k (pos 0) ≡ id_of (get_or slots k no_slot)
  same_there k p =
      let n = ids_long slots used (omega arith) in
      get_or-append (ids_of slots used) (replicate (256 - used) (pos 0)) (pos 0) k (omega arith) ∙ id_at slots used (omega arith) k p

  filled_back : (k : ℕ) (x : Slot) → k < used → id_of x ≡ id_of (get_or slots k no_slot) → set (ids_filled slots used) k (id_of x) ≡ ids_filled (set slots k x) used
  filled_back k x p e =
      ap (set (ids_filled slots used) k) (e ∙ sym (same_there k p))
      ∙ (set-get_or (ids_filled slots used) k (pos 0) ∙ ap (λ (ys : List ℤ). ys ++ replicate (256 - used) (pos 0)) (sym (put_back k x p e)))

  -- after the used ones
  filled_new : (x : Slot) → used < 256 → set (ids_filled slots used) used (id_of x) ≡ ids_filled (set slots used x) (used + 1)
  filled_new x p =
      ids_more (set slots used x) (ids_filled slots used) used (id_of x) (length-set slots used x ∙ l) p
      (ap (λ (ys : List Slot). map id_of ys ++ replicate (256 - used) (pos 0)) (sym (take-set-le used slots used x (omega arith))))
      (ap id_of (sym (get_or-set_same slots used x no_slot (omega arith))))

-- ---- one row
module _ (t : ExtendedMOTAccumulator) (r : Row) (f : ℤ) (h : t.used ≤ 256) where
  -- the place lies in the table, and so does what is used after
  abbrev In : Spot → Type 0
  In s = (s.at < 256) × ((step_of s (get_or t.slots s.at no_slot) t.used r f).used ≤ 256)

  new_in : (b : Bool) → ltb t.used 256 ≡ b → In (cond b (record { at = t.used; fresh = true; full = false }) (record { at = 0; fresh = false; full = true }))
  unfolding step_of
  new_in true e = let p = ltb-true t.used 256 e in (p, (let g : t.used + 1 ≤ 256 = omega arith in g))
  new_in false e = (lit< tt, h)

  at_in : (o : Lookup) → seek_of (ids_of t.slots t.used) r.id ≡ o → length t.slots ≡ 256 → In (spot_of o t.used)
  unfolding spot_of step_of
  at_in (At k) e l =
      let n = ids_long t.slots t.used (omega arith) in
      let p = found_below 0 (ids_of t.slots t.used) r.id k e in
      ((let g : k < 256 = omega arith in g), h)
  at_in Absent e l = new_in (ltb t.used 256) refl

  pub row_in : length t.slots ≡ 256 → ((row_spot t r).at < 256) × ((row_step t r f).used ≤ 256)
  row_in l = at_in (seek_of (ids_of t.slots t.used) r.id) refl l

  -- the array of ids follows
  abbrev Follows : Spot → Type 0
  Follows s =
      let p = step_of s (get_or t.slots s.at no_slot) t.used r f in
      set (ids_filled t.slots t.used) s.at (id_of p.slot) ≡ ids_filled (set t.slots s.at p.slot) p.used

  new_follows : length t.slots ≡ 256 → (b : Bool) → ltb t.used 256 ≡ b
      → Follows (cond b (record { at = t.used; fresh = true; full = false }) (record { at = 0; fresh = false; full = true }))
  unfolding step_of
  new_follows l true e = filled_new t.slots t.used l h (booked_slot (new_slot r.id f) r.to f).slot (ltb-true t.used 256 e)
  new_follows l false e =
      let u = ltb-false t.used 256 e in
      filled_back t.slots t.used l h 0 (get_or t.slots 0 no_slot) (omega arith) refl

  at_follows : length t.slots ≡ 256 → (o : Lookup) → seek_of (ids_of t.slots t.used) r.id ≡ o → Follows (spot_of o t.used)
  unfolding spot_of step_of
  at_follows l (At k) e =
      let n = ids_long t.slots t.used (omega arith) in
      let p = found_below 0 (ids_of t.slots t.used) r.id k e in
      filled_back t.slots t.used l h k (booked_slot (get_or t.slots k no_slot) r.to f).slot (omega arith) (booked_id (get_or t.slots k no_slot) r.to f)
  at_follows l Absent e = new_follows l (ltb t.used 256) refl

  pub ids_follow : length t.slots ≡ 256
      → set (ids_filled t.slots t.used) (row_spot t r).at (id_of (row_step t r f).slot) ≡ ids_filled (set t.slots (row_spot t r).at (row_step t r f).slot) (row_step t r f).used
  ids_follow l = at_follows l (seek_of (ids_of t.slots t.used) r.id) refl

-- ---- all rows: one turn of the loop
pub one_more : (rows : ℕ → Row) (f : ℤ) (s : ExtendedMOTAccumulator) (k : ℕ) (t : ExtendedMOTAccumulator) (full over : Bool) (n : ℕ)
    → trial_of t full over n ≡ trial_after rows f s k
    → (at : ℕ) → at ≡ (row_spot t (rows k)).at → (p : Step) → p ≡ row_step t (rows k) f
    → (full' over' : Bool) (m : ℕ) → full' ≡ (full || p.full) → over' ≡ (over || p.over) → m ≡ one_if p.switched
    → trial_of (with_slot t at p.slot p.used) full' over' (n + m) ≡ trial_after rows f s (k + 1)
unfolding trial_after book_row
one_more rows f s k t full over n e at a p q full' over' m b d g =
    (λ i. trial_of (with_slot t (a i) p.slot p.used) (b i) (d i) (n + g i))
    ∙ (ap (stepped (trial_of t full over n) (row_spot t (rows k)).at) q
    ∙ rw (add-one k) (ap (book_row f (rows k)) e))

-- ---- a row that finds no place: the table is full, and stays so
pub full_now : (rows : ℕ → Row) (f : ℤ) (s : ExtendedMOTAccumulator) (k : ℕ) (t : ExtendedMOTAccumulator) (over : Bool) (n : ℕ)
    → trial_of t false over n ≡ trial_after rows f s k → (row_spot t (rows k)).full ≡ true → (trial_after rows f s (k + 1)).full ≡ true
unfolding trial_after book_row step_of
full_now rows f s k t over n e full =
    rw (add-one k) (ap (λ (x : Trial). (book_row f (rows k) x).full) (sym e) ∙ rw full refl)

full_by : (rows : ℕ → Row) (f : ℤ) (s : ExtendedMOTAccumulator) (k n : ℕ) → ((k ≤ n) → (trial_after rows f s n).full ≡ true) → k ≤ suc n
    → (trial_after rows f s k).full ≡ true → (b : Bool) → ltb k (suc n) ≡ b → (trial_after rows f s (suc n)).full ≡ true
unfolding trial_after book_row
full_by rows f s k n before h e true b = let p = ltb-true k (suc n) b in rw (before (omega arith)) refl
full_by rows f s k n before h e false b = let p = ltb-false k (suc n) b in let same : suc n ≡ k = omega arith in ap (λ (m : ℕ). (trial_after rows f s m).full) same ∙ e

pub full_stays : (rows : ℕ → Row) (f : ℤ) (s : ExtendedMOTAccumulator) (k n : ℕ) → k ≤ n → (trial_after rows f s k).full ≡ true → (trial_after rows f s n).full ≡ true
full_stays rows f s k zero h e = let same : zero ≡ k = omega arith in ap (λ (m : ℕ). (trial_after rows f s m).full) same ∙ e
full_stays rows f s k (suc n) h e = full_by rows f s k n (λ (g : k ≤ n). full_stays rows f s k n g e) h e (ltb k (suc n)) refl
