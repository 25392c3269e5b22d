-- `inplace::book_rows` meets its contract. The table is that of the rows booked so far, and the log has what stood at their places. Assumes nothing.
use Rattle.std.proofs.Common.{rules}
use mathlib.Core.Path.{◌≡◌, refl, sym, ap, ◌∙◌, subst}
use Prim.Native.Nat.{◌<◌, ◌+◌}
use native.Mathlib.Omega.{arith}
use mathlib.Core.List.{List}
use lib.IntN.{ℤ, pos}
use lib.ListN.{length, set, get_or, length-set}
use mir.Syntax.{w32}
use mir.Val.{to_z, of_z}
use Rattle.counts.proofs.Ids.{Small, back}
use Rattle.ids.specs.declared.Lookup.{Lookup}
use Rattle.ids.specs.Ids.{seek_of}
use Rattle.slots.specs.Slots.{no_slot}
use Rattle.slot_cells.specs.Cells.{cells_of, slot_of}
use Rattle.columns.specs.Columns.{cells_at, put}
use Rattle.columns.proofs.Laws.{put_long, slots_long, slot_at, within, ids_there}
use Rattle.rows.specs.declared.Row.{Row}
use Rattle.rows.specs.declared.Step.{Step}
use Rattle.rows.specs.Rows.{Spot, row_at, row_spot, row_step, spot_of, step_of, spot_answer, trial_of, trial_after}
use Rattle.rows.proofs.Booking.{few_more, row_in}
use Rattle.inplace.specs.InPlace.{state_of, table_after, Logged}
use Rattle.inplace.proofs.Turns as turns
use Rattle.inplace.proofs.book_rows.Goals as goal
use Rattle.inplace.proofs.book_rows.Goals.{After-place_of-place, After-map_or-at, After-book_at-step}

-- where the row is booked
spot : (c : After-place_of-place) → spot_answer c.place_of-place.result
    ≡ row_spot (state_of c.loop-k.run c.loop-k.t) (row_at c.args.gt_ids.now c.args.pred_ids.now c.args.pair_rows.now c.args.pair_cols.now c.args.left_rows.now c.args.pairs c.loop-k.k)
spot c =
    let t = c.loop-k.t in
    let ids = ids_there c.loop-k.run c.loop-k.invariant.1 t.used c.loop-k.invariant.0 in
    let small : Small c.row_at-row.result.id = search rules in
    let id = back c.row_at-row.result.id small ∙ ap (λ (x : Row). x.id) c.row_at-row.ensures in
    c.place_of-place.ensures ∙ ap (λ (x : Lookup). spot_of x t.used) (c.seek-found.ensures ∙ (λ i. seek_of (ids i) (id i)))

at_is : (c : After-map_or-at) → c.map_or-at.result
    ≡ (row_spot (state_of c.loop-k.run c.loop-k.t) (row_at c.args.gt_ids.now c.args.pred_ids.now c.args.pair_rows.now c.args.pair_cols.now c.args.left_rows.now c.args.pairs c.loop-k.k)).at
at_is c =
    let e : c.map_or-at.result ≡ (spot_answer c.place_of-place.result).at = search rules in
    e ∙ ap (λ (x : Spot). x.at) (spot (goal.at.After-map_or-at c).After-place_of-place)

-- it lies in the table
place : (c : After-map_or-at) → c.map_or-at.result < 256
place c =
    rw (at_is c)
    (row_in (state_of c.loop-k.run c.loop-k.t) (row_at c.args.gt_ids.now c.args.pred_ids.now c.args.pair_rows.now c.args.pair_cols.now c.args.left_rows.now c.args.pairs c.loop-k.k) (pos 0) c.loop-k.invariant.0 (slots_long c.loop-k.run)).0

-- what the row did
step : (c : After-book_at-step) → c.book_at-step.result
    ≡ row_step (state_of c.loop-k.run c.loop-k.t) (row_at c.args.gt_ids.now c.args.pred_ids.now c.args.pair_rows.now c.args.pair_cols.now c.args.left_rows.now c.args.pairs c.loop-k.k) (to_z w32 (of_z w32 c.args.frame))
step c =
    let s = state_of c.loop-k.run c.loop-k.t in
    let at = c.map_or-at.result in
    let here = place (goal.at.After-book_at-step c).After-map_or-at in
    let e = spot (goal.at.After-book_at-step c).After-place_of-place in
    let a = at_is (goal.at.After-book_at-step c).After-map_or-at in
    let read : c.from.result ≡ slot_of c.read-old.result = search rules in
    let old : c.from.result ≡ get_or s.slots at no_slot = read ∙ (ap slot_of c.read-old.ensures ∙ sym (slot_at c.loop-k.run at here)) in
    let f = to_z w32 (of_z w32 c.args.frame) in
    c.book_at-step.ensures
    ∙ ((λ i. step_of (spot_answer c.place_of-place.result) (old i) c.loop-k.t.used (c.row_at-row.ensures i) f)
    ∙ (λ i. step_of (e i) (get_or s.slots (a i) no_slot) c.loop-k.t.used (row_at c.args.gt_ids.now c.args.pred_ids.now c.args.pair_rows.now c.args.pair_cols.now c.args.left_rows.now c.args.pairs c.loop-k.k) f))

pub loop-k-init : goal.loop-k-init
unfolding trial_after table_after
loop-k-init c =
    let h = c.requires.used_bound in
    (h.0, h.1, h.2, h.3, omega arith, refl, refl, record { place = λ j p. absurd (omega arith); numbers = λ j p. absurd (omega arith) })

pub read-old-requires : goal.read-old-requires
read-old-requires c = within c.loop-k.run c.loop-k.invariant.1 _ (place (goal.at.read-old-requires c).After-map_or-at)

pub write-requires-in-loop-k : goal.write-requires-in-loop-k
write-requires-in-loop-k c = within c.loop-k.run c.loop-k.invariant.1 _ (place (goal.at.write-requires-in-loop-k c).After-map_or-at)

pub loop-k-preserved : goal.loop-k-preserved
loop-k-preserved c =
    let i = c.loop-k.invariant in
    let k = c.loop-k.k in
    let run = c.loop-k.run in
    let t = c.loop-k.t in
    let s = state_of run t in
    let f = to_z w32 (of_z w32 c.args.frame) in
    let rows = row_at c.args.gt_ids.now c.args.pred_ids.now c.args.pair_rows.now c.args.pair_cols.now c.args.left_rows.now c.args.pairs in
    let at = c.map_or-at.result in
    let here = place (goal.at.loop-k-preserved c).After-map_or-at in
    let a = at_is (goal.at.loop-k-preserved c).After-map_or-at in
    let done = c.book_at-step.result in
    let made = step (goal.at.loop-k-preserved c).After-book_at-step in
    let cells : c.from-in-loop-k.result ≡ cells_of done.slot = search rules in
    let written = c.write-in-loop-k.ensures ∙ ap (put run 256 at) cells in
    let m = c.one_if-switches.ensures in
    let there = turns.place_is rows f c.args.run.now c.args.totals k run t c.loop-k.full c.loop-k.over c.loop-k.switches i.6 at a done made in
    let old = c.read-old.ensures ∙ (λ j. cells_at (i.5 j) 256 (there j)) in
    let few : k < 64 = (let h = c.requires.lies.few in let j = c.loop-k-test.true in omega arith) in (
      rw (ap (λ (x : Step). x.used) made) (row_in s (rows k) f i.0 (slots_long run)).1,
      ap length written ∙ (put_long run 256 at _ ∙ i.1),
      length-set c.loop-k.places _ _ ∙ i.2,
      ap length c.write.ensures ∙ (put_long c.loop-k.log 64 k _ ∙ i.3),
      rw m (few_more done.switched c.loop-k.switches k i.4),
      written ∙ turns.next_table rows f c.args.run.now c.args.totals k run t c.loop-k.full c.loop-k.over c.loop-k.switches i.6 at a done made i.5,
      ap (λ (x : List ℤ). trial_of (state_of x (turns.used_now t done.used)) c.either-full.result c.either-over.result (c.loop-k.switches + c.one_if-switches.result)) written
          ∙ turns.next_trial rows f c.args.run.now c.args.totals k run t c.loop-k.full c.loop-k.over c.loop-k.switches i.6 at a done made i.1 here _ _ _
          c.either-full.ensures c.either-over.ensures m,
      subst (λ (x : List ℤ). Logged rows f c.args.run.now c.args.totals (set c.loop-k.places k at) x (k + 1)) (sym c.write.ensures)
          (turns.logged_more rows f c.args.run.now c.args.totals k c.loop-k.places c.loop-k.log i.7 few i.2 i.3 at there _ old),
    )
