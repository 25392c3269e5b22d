-- What a frame keeps, accepted or refused: the table's length, no more slots in use than it has, counts that an i32 holds, and
-- tracked at most detected. Assumes nothing.
use mathlib.Core.Path.{◌≡◌, refl, ◌∙◌}
use mathlib.Core.Bool.{Bool, true, false, cond}
use mathlib.Core.List.{List, [], ◌∷◌}
use Prim.Native.Nat.{ℕ, zero, suc, ◌<◌, ◌≤◌, ◌+◌}
use native.Mathlib.Omega.{arith}
use lib.Dec.{eqb}
use lib.IntN.{ℤ}
use lib.ListN.{length, take, get_or, length-set}
use lib.Seq.{get_or-take, length-take-le}
use lib.Ieee.{Float}
use Rattle.lifecycle.specs.Lifecycle.{counts_fit}
use Rattle.lifecycle.specs.Tracked.{Within}
use Rattle.lifecycle.proofs.Kept.{fresh_within}
use Rattle.slots.specs.declared.Slot.{Slot}
use Rattle.slots.specs.Slots.{no_slot}
use Rattle.slots.specs.Every.{Every}
use Rattle.slots.proofs.Kept.{booked_fit, booked_within}
use Rattle.rows.specs.declared.ExtendedMOTAccumulator.{ExtendedMOTAccumulator}
use Rattle.rows.specs.declared.Row.{Row}
use Rattle.rows.specs.Rows.{row_spot, row_step, book_row, trial_after}
use Rattle.frame.specs.Frame.{next_frame, shares_of, room_for_all, raised_by, trial_no, closed, frame_of}
use Rattle.frame.specs.Held.{Held}
use Rattle.frame.specs.Tracked.{TrackedWithin}
use Rattle.frame.specs.Unbounded.{all_fit}
use Rattle.frame.proofs.Fitting.{new_fits}
use Rattle.frame.proofs.Finals.{trial_good}
use Rattle.frame.proofs.Everywhere.{frame_every}

-- ---- the length of the table
trial_long : (rows : ℕ → Row) (f : ℤ) (s : ExtendedMOTAccumulator) (k : ℕ) → length (trial_after rows f s k).state.slots ≡ length s.slots
unfolding trial_after book_row
trial_long rows f s zero = refl
trial_long rows f s (suc k) =
    let t = (trial_after rows f s k).state in
    length-set t.slots (row_spot t (rows k)).at (row_step t (rows k) f).slot ∙ trial_long rows f s k

pick_long : (b : Bool) (x y : ExtendedMOTAccumulator) (n : ℕ) → length x.slots ≡ n → length y.slots ≡ n → length (cond b x y).slots ≡ n
pick_long true x y n p q = p
pick_long false x y n p q = q

pick_in : (b : Bool) (x y : ExtendedMOTAccumulator) → x.used ≤ 256 → y.used ≤ 256 → (cond b x y).used ≤ 256
pick_in true x y p q = p
pick_in false x y p q = q

module _ (s : ExtendedMOTAccumulator) (rows : ℕ → Row) (pairs lefts extra objects : ℕ) (d : Float) where
  pub frame_long : length (frame_of s rows pairs lefts extra objects d).state.slots ≡ length s.slots
  unfolding frame_of closed raised_by
  frame_long =
      let f = next_frame s.frame_id in
      let t = trial_after rows f s (pairs + lefts) in
      let by = shares_of pairs lefts extra t.switches objects in
      pick_long (eqb (trial_no t (room_for_all t.state by)) 0) (raised_by t.state by d) s (length s.slots) (trial_long rows f s (pairs + lefts)) refl

  -- ---- its slots in use
  pub frame_in : length s.slots ≡ 256 → s.used ≤ 256 → (frame_of s rows pairs lefts extra objects d).state.used ≤ 256
  unfolding frame_of closed raised_by
  frame_in l u =
      let f = next_frame s.frame_id in
      let t = trial_after rows f s (pairs + lefts) in
      let by = shares_of pairs lefts extra t.switches objects in
      pick_in (eqb (trial_no t (room_for_all t.state by)) 0) (raised_by t.state by d) s (trial_good rows f s l u (pairs + lefts)).1 u

  pub frame_held : s.used ≤ 256 → Held s → Held (frame_of s rows pairs lefts extra objects d).state
  frame_held u h =
      record {
        long = frame_long ∙ h.long;
        fit = frame_every (λ (x : Slot). counts_fit x.lifecycle ≡ true) new_fits booked_fit s h.long u h.fit rows pairs lefts extra objects d;
      }

  -- TRACKED AT MOST DETECTED
  pub frame_tracked : length s.slots ≡ 256 → s.used ≤ 256 → TrackedWithin s → TrackedWithin (frame_of s rows pairs lefts extra objects d).state
  frame_tracked l u w = frame_every (λ (x : Slot). Within x.lifecycle) fresh_within booked_within s l u w rows pairs lefts extra objects d

-- ---- what Finals asks
fits_are : (l : List Slot) → ((i : ℕ) → i < length l → counts_fit (get_or l i no_slot).lifecycle ≡ true) → all_fit l ≡ true
unfolding all_fit
fits_are [] f = refl
fits_are (x ∷ xs) f = rw (f 0 (omega arith)) (fits_are xs (λ (i : ℕ) (h : i < length xs). f (suc i) (omega arith)))

pub held_fits : (s : ExtendedMOTAccumulator) → s.used ≤ 256 → Held s → all_fit (take s.used s.slots) ≡ true
held_fits s u h =
    let l = h.long in
    let n = length-take-le s.used s.slots (omega arith) in
    fits_are (take s.used s.slots) (λ (i : ℕ) (p : i < length (take s.used s.slots)).
    (let q : i < s.used = omega arith in rw (get_or-take s.used s.slots i no_slot q) (h.fit i q)))
