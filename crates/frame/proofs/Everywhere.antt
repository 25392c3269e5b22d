-- What holds of a new slot, and of every slot that a booking leaves where it held before, holds of all slots in use after a frame where
-- it held of all before. Assumes nothing.
use Rattle.std.specs.Prelude.{Option}
use mathlib.Core.Path.{◌≡◌, refl, sym, subst}
use mathlib.Core.Bool.{Bool, true, false, cond}
use mathlib.Core.List.{List}
use Prim.Native.Nat.{ℕ, zero, suc, ◌<◌, ◌≤◌, ◌+◌}
use native.Mathlib.Omega.{arith}
use borrow.Author.Tests.{ltb-true, eqb-true, eqb-false}
use lib.Dec.{ltb, eqb}
use lib.IntN.{ℤ}
use lib.ListN.{length, set, get_or}
use lib.Seq.{set-get_or, get_or-set_same, get_or-set_other}
use lib.Ieee.{Float}
use Rattle.slots.specs.declared.Slot.{Slot}
use Rattle.ids.specs.declared.Lookup.{Lookup}
use Rattle.ids.specs.declared.Lookup.TheVariants.{At, Absent}
use Rattle.ids.specs.Ids.{seek_of}
use Rattle.slots.specs.Slots.{new_slot, no_slot, ids_of, booked_slot}
use Rattle.slots.specs.Every.{Every}
use Rattle.ids.proofs.Lookups.{found_below}
use Rattle.slots.proofs.Tables.{ids_long}
use Rattle.rows.specs.declared.ExtendedMOTAccumulator.{ExtendedMOTAccumulator}
use Rattle.rows.specs.declared.Row.{Row}
use Rattle.rows.specs.Rows.{Spot, spot_of, step_of, row_spot, book_row, trial_after}
use Rattle.frame.specs.Frame.{next_frame, shares_of, room_for_all, raised_by, trial_no, closed, frame_of}
use Rattle.frame.proofs.Finals.{trial_good}

-- ---- one slot put at a place
module _ (P : Slot → Type 0) (slots : List Slot) (l : length slots ≡ 256) (k : ℕ) (x : Slot) (p : k < 256) where
  by_place : (i : ℕ) → (b : Bool) → eqb i k ≡ b → P x → ((i ≡ k → ⊥) → P (get_or slots i no_slot)) → P (get_or (set slots k x) i no_slot)
  by_place i true e at off =
      let q = eqb-true i k e in
      subst (λ (j : ℕ). P (get_or (set slots k x) j no_slot)) (sym q) (subst P (sym (get_or-set_same slots k x no_slot (omega arith))) at)
  by_place i false e at off = subst P (sym (get_or-set_other slots k i x no_slot (eqb-false i k e))) (off (eqb-false i k e))

  -- among the used ones, or after them
  pub every_put : (used : ℕ) → P x → Every P slots used → Every P (set slots k x) used
  every_put used n a i h = by_place i (eqb i k) refl n (λ q. a i h)

  pub every_more : P x → Every P slots k → Every P (set slots k x) (k + 1)
  every_more n a i h = by_place i (eqb i k) refl n (λ q. a i (omega arith))

-- ---- a booking that keeps it, and a new slot that has it
module _ (P : Slot → Type 0) (new : (id f : ℤ) → P (new_slot id f)) (kept : (x : Slot) (to : Option ℤ) (f : ℤ) → P x → P (booked_slot x to f).slot) where
  -- one row
  module _ (t : ExtendedMOTAccumulator) (r : Row) (f : ℤ) (l : length t.slots ≡ 256) (u : t.used ≤ 256) (a : Every P t.slots t.used) where
    abbrev Left : Spot → Type 0
    Left sp = let p = step_of sp (get_or t.slots sp.at no_slot) t.used r f in Every P (set t.slots sp.at p.slot) p.used

    new_left : (b : Bool) → ltb t.used 256 ≡ b → Left (cond b (record { at = t.used; fresh = true; full = false }) (record { at = 0; fresh = false; full = true }))
    unfolding step_of
    new_left true e =
        let x = new_slot r.id f in
        every_more P t.slots l t.used (booked_slot x r.to f).slot (ltb-true t.used 256 e) (kept x r.to f (new r.id f)) a
    new_left false e = subst (λ (ys : List Slot). Every P ys t.used) (sym (set-get_or t.slots 0 no_slot)) a

    at_left : (o : Lookup) → seek_of (ids_of t.slots t.used) r.id ≡ o → Left (spot_of o t.used)
    unfolding spot_of step_of
    at_left (At k) e =
        let n = ids_long t.slots t.used (omega arith) in
        let q = found_below 0 (ids_of t.slots t.used) r.id k e in
        let x = get_or t.slots k no_slot in
        every_put P t.slots l k (booked_slot x r.to f).slot (omega arith) t.used (kept x r.to f (a k (omega arith))) a
    at_left Absent e = new_left (ltb t.used 256) refl

    row_every : Left (row_spot t r)
    row_every = at_left (seek_of (ids_of t.slots t.used) r.id) refl

  -- all rows, and the frame
  module _ (s : ExtendedMOTAccumulator) (l : length s.slots ≡ 256) (u : s.used ≤ 256) (a : Every P s.slots s.used) where
    pub trial_every : (rows : ℕ → Row) (f : ℤ) (k : ℕ) → Every P (trial_after rows f s k).state.slots (trial_after rows f s k).state.used
    unfolding trial_after book_row
    trial_every rows f zero = a
    trial_every rows f (suc k) =
        let g = trial_good rows f s l u k in
        row_every (trial_after rows f s k).state (rows k) f g.0 g.1 (trial_every rows f k)

    pick : (b : Bool) (x : ExtendedMOTAccumulator) → Every P x.slots x.used → Every P (cond b x s).slots (cond b x s).used
    pick true x p = p
    pick false x p = a

    pub frame_every : (rows : ℕ → Row) (pairs lefts extra objects : ℕ) (d : Float)
        → let t = (frame_of s rows pairs lefts extra objects d).state in Every P t.slots t.used
    unfolding frame_of closed raised_by
    frame_every rows pairs lefts extra objects d =
        let f = next_frame s.frame_id in
        let t = trial_after rows f s (pairs + lefts) in
        let by = shares_of pairs lefts extra t.switches objects in
        pick (eqb (trial_no t (room_for_all t.state by)) 0) (raised_by t.state by d) (trial_every rows f (pairs + lefts))
