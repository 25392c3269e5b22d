-- `trial::book_rows` meets its contract. The rows booked so far are the definition's, and the array of ids is that of the slots. Assumes nothing.
use Rattle.std.proofs.Common.{rules}
use mathlib.Core.Path.{◌≡◌, refl, sym, ap, ◌∙◌}
use Prim.Native.Nat.{◌<◌}
use native.Mathlib.Omega.{arith}
use lib.IntN.{pos}
use lib.ListN.{take, set, get_or, length-set}
use mir.Syntax.{w32}
use mir.Val.{to_z, of_z}
use Rattle.counts.proofs.Ids.{Small, back}
use Rattle.ids.specs.declared.Lookup.{Lookup}
use Rattle.ids.specs.Ids.{seek_of}
use Rattle.slots.specs.Slots.{ids_filled, id_of, no_slot}
use Rattle.rows.specs.declared.Row.{Row}
use Rattle.rows.specs.declared.Step.{Step}
use Rattle.slots.proofs.Tables.{ids_taken}
use Rattle.rows.specs.Rows.{Spot, row_at, row_spot, row_step, spot_of, step_of, spot_answer, trial_after}
use Rattle.rows.proofs.Booking.{few_more, row_in, ids_follow, one_more}
use Rattle.trial.proofs.book_rows.Goals as goal
use Rattle.trial.proofs.book_rows.Goals.{After-place_of-place, After-map_or-at, After-book_at-step}

-- where the row is booked
spot : (c : After-place_of-place) → spot_answer c.place_of-place.result
    ≡ row_spot c.loop-k.t (row_at c.args.gt_ids.now c.args.pred_ids.now c.args.pair_rows.now c.args.pair_cols.now c.args.left_rows.now c.args.pairs c.loop-k.k)
spot c =
    let t = c.loop-k.t in
    let h = c.loop-k.invariant.0 in
    let l = c.loop-k.invariant.1 in
    let ids = ap (take t.used) c.loop-k.invariant.2 ∙ ids_taken t.slots t.used (omega arith) in
    let small : Small c.row_at-row.result.id = search rules in
    let id = back c.row_at-row.result.id small ∙ ap (λ (x : Row). x.id) c.row_at-row.ensures in
    c.place_of-place.ensures ∙ ap (λ (x : Lookup). spot_of x t.used) (c.seek-found.ensures ∙ (λ i. seek_of (ids i) (id i)))

at_is : (c : After-map_or-at) → c.map_or-at.result
    ≡ (row_spot c.loop-k.t (row_at c.args.gt_ids.now c.args.pred_ids.now c.args.pair_rows.now c.args.pair_cols.now c.args.left_rows.now c.args.pairs c.loop-k.k)).at
at_is c =
    let e : c.map_or-at.result ≡ (spot_answer c.place_of-place.result).at = search rules in
    e ∙ ap (λ (x : Spot). x.at) (spot (goal.at.After-map_or-at c).After-place_of-place)

-- it lies in the table
place : (c : After-map_or-at) → c.map_or-at.result < 256
place c =
    rw (at_is c)
    (row_in c.loop-k.t (row_at c.args.gt_ids.now c.args.pred_ids.now c.args.pair_rows.now c.args.pair_cols.now c.args.left_rows.now c.args.pairs c.loop-k.k) (pos 0)
    c.loop-k.invariant.0 c.loop-k.invariant.1).0

-- what the row did
step : (c : After-book_at-step) → c.book_at-step.result
    ≡ row_step c.loop-k.t (row_at c.args.gt_ids.now c.args.pred_ids.now c.args.pair_rows.now c.args.pair_cols.now c.args.left_rows.now c.args.pairs c.loop-k.k)
    (to_z w32 (of_z w32 c.args.frame))
step c =
    let t = c.loop-k.t in
    let e = spot (goal.at.After-book_at-step c).After-place_of-place in
    let a = at_is (goal.at.After-book_at-step c).After-map_or-at in
    let f = to_z w32 (of_z w32 c.args.frame) in
    c.book_at-step.ensures ∙ (λ i. step_of (e i) (get_or t.slots (a i) no_slot) t.used (c.row_at-row.ensures i) f)

pub loop-k-init : goal.loop-k-init
unfolding trial_after
loop-k-init c = (c.requires.used_bound, c.ids_of-ids.ensures.1, c.ids_of-ids.ensures.0, omega arith, refl)

pub offset_bounds-t-at : goal.offset_bounds-t-at
offset_bounds-t-at c = let h = place (goal.at.offset_bounds-t-at c).After-map_or-at in record { fits = omega arith }

pub bounds-t-at : goal.bounds-t-at
bounds-t-at c = place (goal.at.bounds-t-at c).After-map_or-at

pub offset_bounds-t-at-in-loop-k : goal.offset_bounds-t-at-in-loop-k
offset_bounds-t-at-in-loop-k c = let h = place (goal.at.offset_bounds-t-at-in-loop-k c).After-map_or-at in record { fits = omega arith }

pub bounds-t-at-in-loop-k : goal.bounds-t-at-in-loop-k
bounds-t-at-in-loop-k c = place (goal.at.bounds-t-at-in-loop-k c).After-map_or-at

pub offset_bounds-ids-at : goal.offset_bounds-ids-at
offset_bounds-ids-at c = let h = place (goal.at.offset_bounds-ids-at c).After-map_or-at in record { fits = omega arith }

pub bounds-ids-at : goal.bounds-ids-at
bounds-ids-at c = place (goal.at.bounds-ids-at c).After-map_or-at

pub loop-k-preserved : goal.loop-k-preserved
loop-k-preserved c =
    let f = to_z w32 (of_z w32 c.args.frame) in
    let t = c.loop-k.t in
    let r = row_at c.args.gt_ids.now c.args.pred_ids.now c.args.pair_rows.now c.args.pair_cols.now c.args.left_rows.now c.args.pairs in
    let a = at_is (goal.at.loop-k-preserved c).After-map_or-at in
    let d = step (goal.at.loop-k-preserved c).After-book_at-step in
    let made = c.book_at-step.result in
    let small : Small (id_of made.slot) = search rules in
    let id = back (id_of made.slot) small ∙ ap (λ (x : Step). id_of x.slot) d in (
      rw (ap (λ (x : Step). x.used) d) (row_in t (r c.loop-k.k) f c.loop-k.invariant.0 c.loop-k.invariant.1).1,
      length-set t.slots _ _ ∙ c.loop-k.invariant.1,
      (λ i. set (c.loop-k.invariant.2 i) (a i) (id i))
          ∙ (ids_follow t (r c.loop-k.k) f c.loop-k.invariant.0 c.loop-k.invariant.1
          ∙ (λ i. ids_filled (set t.slots (sym a i) (sym d i).slot) (sym d i).used)),
      rw c.one_if-switches.ensures (few_more made.switched c.loop-k.switches c.loop-k.k c.loop-k.invariant.3),
      one_more r f c.args.s c.loop-k.k t c.loop-k.full c.loop-k.over c.loop-k.switches c.loop-k.invariant.4 c.map_or-at.result a made d _ _ _
          c.either-full.ensures c.either-over.ensures c.one_if-switches.ensures,
    )
