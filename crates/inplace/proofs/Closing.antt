-- A trial in a run, closed: its number and its state are the frame's. Assumes nothing.
use mathlib.Core.Path.{◌≡◌, refl, sym, ap, ◌∙◌}
use mathlib.Core.Bool.{Bool, true, false, cond}
use mathlib.Core.List.{List, []}
use Prim.Native.Nat.{ℕ, ◌+◌}
use native.Mathlib.Omega.{arith}
use borrow.Author.Tests.{eq-eqb, ne_eqb}
use lib.IntN.{ℤ}
use lib.Ieee.{Float}
use Rattle.std.specs.Prelude.{Err}
use Rattle.refusals.specs.declared.Refusal.{Refusal}
use Rattle.refusals.specs.declared.Refusal.TheVariants.{Unsound, TooMany, Misfit, EmptyBox, FullTable, NoRoom, Overflow}
use Rattle.refusals.specs.Refusals.{number_of as refusal_no}
use Rattle.rows.specs.declared.ExtendedMOTAccumulator.{ExtendedMOTAccumulator}
use Rattle.rows.specs.declared.Row.{Row}
use Rattle.rows.specs.declared.Trial.{Trial}
use Rattle.rows.specs.Rows.{trial_of, trial_after, trial_outcome}
use Rattle.totals.specs.declared.Shares.{Shares}
use Rattle.frame.specs.Frame.{next_frame, state_with, shares_of, room_for_all, raised_totals, raised_by, trial_no, closed_at, closed, framed, frame_of}
use Rattle.totals.specs.declared.Totals.{Totals}
use Rattle.inplace.specs.declared.Tally.{Tally}
use Rattle.inplace.specs.InPlace.{state_of, number_of, table_after, Framed}

-- a reason has a number of its own
pub refusal_counts : (r : Refusal) → refusal_no r ≡ 0 → ⊥
refusal_counts Unsound e = absurd (omega arith)
refusal_counts TooMany e = absurd (omega arith)
refusal_counts Misfit e = absurd (omega arith)
refusal_counts EmptyBox e = absurd (omega arith)
refusal_counts FullTable e = absurd (omega arith)
refusal_counts NoRoom e = absurd (omega arith)
refusal_counts Overflow e = absurd (omega arith)

by_flags : (a b r : Bool) → ◌≡◌ {A = ℕ} (cond a 5 (cond b 7 (cond r 0 7))) 0 → r ≡ true
by_flags true b r e = absurd (omega arith)
by_flags false true r e = absurd (omega arith)
by_flags false false true e = refl
by_flags false false false e = absurd (omega arith)

-- a frame that is not refused has room for its shares
pub room_at_zero : (t : Tally) (by : Shares) → number_of t by ≡ 0 → room_for_all (state_with [] t.totals) by ≡ true
unfolding number_of
room_at_zero t by e = by_flags t.full t.over (room_for_all (state_with [] t.totals) by) e

module _ (run : List ℤ) (totals : Totals) (rows : ℕ → Row) (pairs lefts extra objects : ℕ) (d : Float) (after : List ℤ) (r : Tally)
    (e : trial_of (state_of after r.totals) r.full r.over r.switches ≡ trial_after rows (next_frame totals.frame_id) (state_of run totals) (pairs + lefts))
    (n : ℕ) (q : n ≡ number_of r (shares_of pairs lefts extra r.switches objects)) where
  whole : closed_at n (state_of run totals) (state_of after (raised_totals r.totals (shares_of pairs lefts extra r.switches objects) d))
      ≡ frame_of (state_of run totals) rows pairs lefts extra objects d
  unfolding frame_of closed raised_by room_for_all number_of
  whole =
      ap (λ (m : ℕ). closed_at m (state_of run totals) (state_of after (raised_totals r.totals (shares_of pairs lefts extra r.switches objects) d))) q
      ∙ ap (framed (state_of run totals) pairs lefts extra objects d) e

  -- beside a refusal, with every number of the run as it was
  pub refused : (n ≡ 0 → ⊥) → (kept : List ℤ) → kept ≡ run → Framed run totals rows pairs lefts extra objects d kept (record { number = n; totals = totals })
  refused x kept k =
      let f = ne_eqb n 0 x in
      record {
        booked = (λ i. record { number = n; state = state_of (k i) totals }) ∙ (sym (rw f) ∙ whole);
        table = k ∙ sym (rw f);
      }

  pub accepted : n ≡ 0 → after ≡ table_after rows (next_frame totals.frame_id) run totals (pairs + lefts) → (u : Totals)
      → u ≡ raised_totals r.totals (shares_of pairs lefts extra r.switches objects) d → Framed run totals rows pairs lefts extra objects d after (record { number = 0; totals = u })
  accepted z t u w =
      record {
        booked = (λ i. record { number = sym z i; state = state_of after (w i) }) ∙ (sym (rw (eq-eqb n 0 z)) ∙ whole);
        table = t;
      }

-- ---- a refusal by the trial itself, whatever table reaches it
number_by : (full over room : Bool) (u : ExtendedMOTAccumulator) (n : ℕ) (r : Refusal) → trial_outcome (trial_of u full over n) ≡ Err r
    → refusal_no r ≡ trial_no (trial_of u full over n) room
number_by true over room u n r e = let q : r ≡ FullTable = cc in ap refusal_no q
number_by false true room u n r e = let q : r ≡ Overflow = cc in ap refusal_no q
number_by false false room u n r e = let z : ◌≡◌ {A = ℕ} 0 1 = cc in absurd (omega arith)

module _ (run : List ℤ) (totals : Totals) (rows : ℕ → Row) (pairs lefts extra objects : ℕ) (d : Float) where
  abbrev all : Trial
  all = trial_after rows (next_frame totals.frame_id) (state_of run totals) (pairs + lefts)

  pub refused_by_trial : (r : Refusal) → trial_outcome all ≡ Err r → (kept : List ℤ) → kept ≡ run
      → Framed run totals rows pairs lefts extra objects d kept (record { number = refusal_no r; totals = totals })
  unfolding frame_of closed
  refused_by_trial r e kept k =
      let f = ne_eqb (refusal_no r) 0 (refusal_counts r) in
      let q = number_by all.full all.over (room_for_all all.state (shares_of pairs lefts extra all.switches objects)) all.state all.switches r e in
      record {
        booked = (λ i. record { number = refusal_no r; state = state_of (k i) totals })
            ∙ (sym (rw f) ∙ ap (λ (m : ℕ). closed_at m (state_of run totals) (raised_by all.state (shares_of pairs lefts extra all.switches objects) d)) q);
        table = k ∙ sym (rw f);
      }
