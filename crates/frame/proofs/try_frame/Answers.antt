-- `frame::try_frame` meets its contract. The trial is the definition's, and closing it is what the definition does. Assumes nothing.
use Rattle.std.proofs.Common.{rules, arith, Ok, Err, Float}
use mathlib.Core.Path.{◌≡◌, sym, ap, ◌∙◌}
use mathlib.Core.Bool.{Bool, true, false}
use mathlib.Core.List.{[]}
use Prim.Native.Nat.{ℕ}
use lib.ListN.{length}
use mir.Syntax.{w32}
use mir.Val.{to_z, of_z}
use Rattle.counts.proofs.Ids.{Small, back}
use Rattle.refusals.specs.declared.Refusal.{Refusal}
use Rattle.refusals.specs.declared.Refusal.TheVariants.{FullTable, Overflow}
use Rattle.rows.specs.declared.ExtendedMOTAccumulator.{ExtendedMOTAccumulator}
use Rattle.rows.specs.Rows.{row_at, trial_of, trial_outcome}
use Rattle.totals.specs.declared.Shares.{Shares}
use Rattle.totals.specs.declared.Totals.{Totals}
use Rattle.frame.specs.Frame.{totals_of, state_with, shares_of, room_for_all, raised_totals, raised_by, closed, next_frame, framed, frame_of, frame_answer}
use Rattle.frame.proofs.try_frame.Goals as goal
use Rattle.frame.proofs.try_frame.Goals.{After-book_rows-trial}

-- the room that a state's totals have is the state's
room : (u : ExtendedMOTAccumulator) (t : Totals) (by : Shares) (r : Bool) → t ≡ totals_of u → r ≡ room_for_all (state_with [] t) by → room_for_all u by ≡ r
unfolding room_for_all
room u t by r e h = sym (h ∙ ap (λ (x : Totals). room_for_all (state_with [] x) by) e)

-- ---- a trial, and what the definition makes of it
module _ (s u : ExtendedMOTAccumulator) (n pairs lefts extra objects : ℕ) (distance : Float) where
  refused : (full over : Bool) (r : Refusal) → trial_outcome (trial_of u full over n) ≡ Err r
      → frame_answer s (Err r) ≡ framed s pairs lefts extra objects distance (trial_of u full over n)
  unfolding closed
  refused true over r e = let q : r ≡ FullTable = cc in ap (λ (x : Refusal). frame_answer s (Err x)) q
  refused false true r e = let q : r ≡ Overflow = cc in ap (λ (x : Refusal). frame_answer s (Err x)) q
  refused false false r e = let z : ◌≡◌ {A = ℕ} 0 1 = cc in absurd (omega arith)

  no_room : (full over : Bool) → trial_outcome (trial_of u full over n) ≡ Ok tt → room_for_all u (shares_of pairs lefts extra n objects) ≡ false
      → frame_answer s (Err Overflow) ≡ framed s pairs lefts extra objects distance (trial_of u full over n)
  unfolding closed
  no_room true over e h = let z : ◌≡◌ {A = ℕ} 0 1 = cc in absurd (omega arith)
  no_room false true e h = let z : ◌≡◌ {A = ℕ} 0 1 = cc in absurd (omega arith)
  no_room false false e h = rw h

  taken : (full over : Bool) → trial_outcome (trial_of u full over n) ≡ Ok tt → room_for_all u (shares_of pairs lefts extra n objects) ≡ true
      → frame_answer s (Ok (raised_by u (shares_of pairs lefts extra n objects) distance)) ≡ framed s pairs lefts extra objects distance (trial_of u full over n)
  unfolding closed
  taken true over e h = let z : ◌≡◌ {A = ℕ} 0 1 = cc in absurd (omega arith)
  taken false true e h = let z : ◌≡◌ {A = ℕ} 0 1 = cc in absurd (omega arith)
  taken false false e h = rw h

trial : (c : After-book_rows-trial) → framed c.args.s c.args.pairs c.args.lefts c.args.extra (length c.args.gt_ids.now) c.args.distance c.book_rows-trial.result
    ≡ frame_of c.args.s (row_at c.args.gt_ids.now c.args.pred_ids.now c.args.pair_rows.now c.args.pair_cols.now c.args.left_rows.now c.args.pairs) c.args.pairs c.args.lefts
    c.args.extra (length c.args.gt_ids.now) c.args.distance
unfolding frame_of
trial c =
    let small : Small c.args.s.frame_id = search rules in
    let e : to_z w32 (of_z w32 c.next_frame-frame.result) ≡ next_frame c.args.s.frame_id =
    back c.next_frame-frame.result c.next_frame-frame.type_inv
    ∙ (c.next_frame-frame.ensures ∙ ap next_frame (back c.args.s.frame_id small)) in
    ap (framed c.args.s c.args.pairs c.args.lefts c.args.extra (length c.args.gt_ids.now) c.args.distance) (rw e at c.book_rows-trial.ensures.booked)

pub returns-in_err-outcome : goal.returns-in_err-outcome
returns-in_err-outcome c =
    let t = c.book_rows-trial.result in
    let same : c.from_residual.result ≡ Err c.in_err-outcome.field-0.0 = search rules in
    ap (frame_answer c.args.s) same
    ∙ (refused c.args.s t.state t.switches c.args.pairs c.args.lefts c.args.extra (length c.args.gt_ids.now) c.args.distance t.full t.over _
    (sym c.outcome.ensures ∙ c.in_err-outcome.was)
    ∙ trial (goal.at.returns-in_err-outcome c).After-book_rows-trial)

pub returns-then-not-room_for_all : goal.returns-then-not-room_for_all
returns-then-not-room_for_all c =
    let t = c.book_rows-trial.result in
    no_room c.args.s t.state t.switches c.args.pairs c.args.lefts c.args.extra (length c.args.gt_ids.now) c.args.distance t.full t.over
    (sym c.outcome.ensures ∙ c.in_ok-outcome.was)
    (room t.state _ _ _ c.totals_of-before.ensures c.room_for_all.ensures ∙ c.if-not-room_for_all.true)
    ∙ trial (goal.at.returns-then-not-room_for_all c).After-book_rows-trial

pub returns : goal.returns
unfolding raised_by
returns c =
    let t = c.book_rows-trial.result in
    let raised = c.raised_by-raised.ensures ∙ ap (λ (x : Totals). raised_totals x (shares_of c.args.pairs c.args.lefts c.args.extra t.switches (length c.args.gt_ids.now)) c.args.distance) c.totals_of-before.ensures in
    ap (λ (x : ExtendedMOTAccumulator). frame_answer c.args.s (Ok x)) (c.with_totals.ensures ∙ ap (state_with t.state.slots) raised)
    ∙ (taken c.args.s t.state t.switches c.args.pairs c.args.lefts c.args.extra (length c.args.gt_ids.now) c.args.distance t.full t.over
    (sym c.outcome.ensures ∙ c.in_ok-outcome.was)
    (room t.state _ _ _ c.totals_of-before.ensures c.room_for_all.ensures ∙ c.if-not-room_for_all.false)
    ∙ trial (goal.at.returns c).After-book_rows-trial)
