-- Refusals 5 and 7 are given exactly where document 01 says: the number of a frame is that of the final values of a booking without
-- any bound. Assumes nothing.
use mathlib.Core.Path.{◌≡◌, refl, sym, ap, ◌∙◌}
use mathlib.Core.Bool.{Bool, true, false, cond, ◌||◌}
use Prim.Native.Nat.{ℕ, zero, suc, ◌≤◌, ◌+◌}
use native.Mathlib.Omega.{arith}
use borrow.Author.Tests.{lt-ltb, le-ltb, eq-eqb}
use lib.Dec.{ltb, eqb}
use lib.IntN.{ℤ}
use lib.Ieee.{Float}
use lib.ListN.{length, take, length-set}
use Rattle.counts.specs.Counts.{one_if}
use Rattle.rows.specs.declared.ExtendedMOTAccumulator.{ExtendedMOTAccumulator}
use Rattle.rows.specs.declared.Row.{Row}
use Rattle.rows.specs.declared.Trial.{Trial}
use Rattle.rows.specs.Rows.{row_spot, row_step, stepped, book_row, trial_after}
use Rattle.rows.proofs.Booking.{row_in}
use Rattle.totals.specs.declared.Shares.{Shares}
use Rattle.frame.specs.Frame.{next_frame, shares_of, room_for_all, raised_by, closed, frame_of}
use Rattle.frame.specs.Unbounded.{Tally, tally_row, tally_after, all_fit, final_no, final_tally}
use Rattle.frame.proofs.Agreement.{Agrees, full_stays, same_long, row_agrees}

-- ---- the trial and the unbounded booking agree after any number of rows
module _ (rows : ℕ → Row) (f : ℤ) (s : ExtendedMOTAccumulator) (l : length s.slots ≡ 256) (h : s.used ≤ 256) where
  pub trial_good : (k : ℕ) → (length (trial_after rows f s k).state.slots ≡ 256) × ((trial_after rows f s k).state.used ≤ 256)
  unfolding trial_after book_row
  trial_good zero = (l, h)
  trial_good (suc k) =
      let t = (trial_after rows f s k).state in
      let g = trial_good k in
      (length-set t.slots (row_spot t (rows k)).at (row_step t (rows k) f).slot ∙ g.0, (row_in t (rows k) f g.1 g.0).1)

  one_row : (t : Trial) (r : Row) (u : Tally) → length t.state.slots ≡ 256 → t.state.used ≤ 256 → (full over : Bool) → Agrees full over t.state t.switches u
      → let p = row_step t.state r f in
      Agrees (full || p.full) (over || p.over) (stepped t (row_spot t.state r).at p).state (t.switches + one_if p.switched) (tally_row f r u)
  one_row t r u a b true over e = full_stays f r u e
  one_row t r u a b false over e = row_agrees t.state r f u t.switches a b over e

  pub trial_agrees : all_fit (take s.used s.slots) ≡ true → (k : ℕ)
      → let t = trial_after rows f s k in Agrees t.full t.over t.state t.switches (tally_after rows f (take s.used s.slots) k)
  unfolding trial_after book_row tally_after
  trial_agrees e zero = (refl, e, refl)
  trial_agrees e (suc k) =
      let t = trial_after rows f s k in
      let g = trial_good k in
      one_row t (rows k) (tally_after rows f (take s.used s.slots) k) g.0 g.1 t.full t.over (trial_agrees e k)

  -- a booking of rows changes no total
  pub totals_kept : (by : Shares) (k : ℕ) → room_for_all (trial_after rows f s k).state by ≡ room_for_all s by
  unfolding trial_after book_row room_for_all
  totals_kept by zero = refl
  totals_kept by (suc k) = totals_kept by k

-- ---- the number
module _ (s : ExtendedMOTAccumulator) (r : Row) (f : ℤ) (u : Tally) (n : ℕ) (l : length s.slots ≡ 256) (h : s.used ≤ 256) (R : ℕ → Bool) where
  abbrev Says : Bool → Bool → Type 0
  Says full over =
      ◌≡◌ {A = ℕ} (cond full 5 (cond over 7 (cond (R n) 0 7)))
      (cond (ltb 256 (length u.slots)) 5 (cond (all_fit u.slots) (cond (R u.switches) 0 7) 7))

  few : (over : Bool) → Agrees false over s n u → ltb 256 (length u.slots) ≡ false
  few over a = let m = same_long s r f u n l h over a in le-ltb 256 (length u.slots) (omega arith)

  by_flags : (full over : Bool) → Agrees full over s n u → Says full over
  by_flags true over a = rw (lt-ltb 256 (length u.slots) a)
  by_flags false true a = rw (few true a, a.1)
  by_flags false false a = rw (few false a, a.1, a.2)

-- THE NUMBER OF A FRAME IS THAT OF THE FINAL VALUES
pub number_is : (s : ExtendedMOTAccumulator) (rows : ℕ → Row) (pairs lefts extra objects : ℕ) (d : Float) → length s.slots ≡ 256 → s.used ≤ 256
    → all_fit (take s.used s.slots) ≡ true
    → (frame_of s rows pairs lefts extra objects d).number ≡ final_no s pairs lefts extra objects (final_tally s rows (pairs + lefts))
unfolding frame_of closed
number_is s rows pairs lefts extra objects d l h e =
    let f = next_frame s.frame_id in
    let t = trial_after rows f s (pairs + lefts) in
    let g = trial_good rows f s l h (pairs + lefts) in
    let room : ℕ → Bool = λ n. room_for_all s (shares_of pairs lefts extra n objects) in
    ap {B = ℕ} (λ (b : Bool). cond t.full 5 (cond t.over 7 (cond b 0 7))) (totals_kept rows f s l h (shares_of pairs lefts extra t.switches objects) (pairs + lefts))
    ∙ by_flags t.state (rows 0) f (tally_after rows f (take s.used s.slots) (pairs + lefts)) t.switches g.0 g.1 room t.full t.over
    (trial_agrees rows f s l h e (pairs + lefts))

-- ---- an accepted frame leaves the slots, and counts the switches, that the unbounded booking has
abbrev flagged : Bool → Bool → Bool → ℕ
flagged full over room = cond full 5 (cond over 7 (cond room 0 7))

none_up : (t : ExtendedMOTAccumulator) (n : ℕ) (u : Tally) (full over room : Bool) → Agrees full over t n u → flagged full over room ≡ 0 → Agrees false false t n u
none_up t n u true over room a z = absurd (omega arith)
none_up t n u false true room a z = absurd (omega arith)
none_up t n u false false false a z = absurd (omega arith)
none_up t n u false false true a z = a

module _ (s : ExtendedMOTAccumulator) (rows : ℕ → Row) (pairs lefts extra objects : ℕ) (d : Float) (l : length s.slots ≡ 256) (h : s.used ≤ 256)
    (e : all_fit (take s.used s.slots) ≡ true) (z : (frame_of s rows pairs lefts extra objects d).number ≡ 0) where
  abbrev trial : Trial
  trial = trial_after rows (next_frame s.frame_id) s (pairs + lefts)

  agreed : Agrees false false trial.state trial.switches (final_tally s rows (pairs + lefts))
  unfolding frame_of closed
  agreed =
      none_up trial.state trial.switches (final_tally s rows (pairs + lefts)) trial.full trial.over
      (room_for_all trial.state (shares_of pairs lefts extra trial.switches objects)) (trial_agrees rows (next_frame s.frame_id) s l h e (pairs + lefts)) z

  pub table_is : let r = frame_of s rows pairs lefts extra objects d in take r.state.used r.state.slots ≡ (final_tally s rows (pairs + lefts)).slots
  unfolding frame_of closed raised_by
  table_is = rw (eq-eqb _ 0 z) (sym agreed.0)

  pub switches_are : trial.switches ≡ (final_tally s rows (pairs + lefts)).switches
  switches_are = agreed.2
