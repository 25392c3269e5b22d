-- `inplace::book_frame` meets its contract. Assumes nothing.
use Rattle.std.proofs.Common.{rules}
use mathlib.Core.Path.{◌≡◌, refl, sym, ap, ◌∙◌}
use mathlib.Core.List.{List}
use Prim.Native.Nat.{◌+◌}
use native.Mathlib.Omega.{arith}
use lib.IntN.{ℤ}
use lib.ListN.{length}
use mir.Syntax.{w32}
use mir.Val.{to_z, of_z}
use Rattle.counts.proofs.Ids.{Small, back}
use Rattle.rows.specs.Rows.{row_at}
use Rattle.frame.specs.Frame.{Few, shares_of, next_frame}
use Rattle.inplace.specs.InPlace.{Tried, undone}
use Rattle.inplace.proofs.Turns.{after_long, place_in, undone_is}
use Rattle.inplace.proofs.Closing as closing
use Rattle.inplace.proofs.book_frame.Goals as goal
use Rattle.inplace.proofs.book_frame.Goals.{After-book_rows-tally}

tried : (c : After-book_rows-tally) → Tried (row_at c.args.gt_ids.now c.args.pred_ids.now c.args.pair_rows.now c.args.pair_cols.now c.args.left_rows.now c.args.pairs) (next_frame c.args.totals.frame_id) c.args.run.now c.args.totals (c.args.pairs + c.args.lefts)
    c.book_rows-tally.new.run c.book_rows-tally.new.places c.book_rows-tally.new.log c.book_rows-tally.result
tried c =
    let small : Small c.args.totals.frame_id = search rules in
    let e : to_z w32 (of_z w32 c.next_frame-frame.result) ≡ next_frame c.args.totals.frame_id =
    back c.next_frame-frame.result c.next_frame-frame.type_inv ∙ (c.next_frame-frame.ensures ∙ ap next_frame (back c.args.totals.frame_id small)) in
    rw e at c.book_rows-tally.ensures

few : (c : After-book_rows-tally) → Few (shares_of c.args.pairs c.args.lefts c.args.extra c.book_rows-tally.result.switches (length c.args.gt_ids.now))
few c =
    let l = c.requires.lies.few in
    let g = c.requires.gt_ids_len_bound.0 in
    let x = c.requires.gt_ids_len_bound.1 in
    let w = c.book_rows-tally.ensures.few in
    record { matches = omega arith; misses = omega arith; false_positives = omega arith; switches = omega arith; objects = omega arith }

pub check-requires : goal.check-requires
check-requires c = few (goal.at.check-requires c).After-book_rows-tally

pub raised_by-requires : goal.raised_by-requires
raised_by-requires c =
    record { few = few (goal.at.raised_by-requires c).After-book_rows-tally; by_value = closing.room_at_zero _ _ (sym c.in-Ok.ensures) }

pub returns-in-Ok : goal.returns-in-Ok
returns-in-Ok c =
    let t = tried (goal.at.returns-in-Ok c).After-book_rows-tally in
    closing.accepted c.args.run.now c.args.totals (row_at c.args.gt_ids.now c.args.pred_ids.now c.args.pair_rows.now c.args.pair_cols.now c.args.left_rows.now c.args.pairs) c.args.pairs c.args.lefts c.args.extra (length c.args.gt_ids.now) c.args.distance c.book_rows-tally.new.run c.book_rows-tally.result t.trial
    0 c.in-Ok.ensures refl t.table c.raised_by.result c.raised_by.ensures

pub undo-requires : goal.undo-requires
undo-requires c =
    let t = tried (goal.at.undo-requires c).After-book_rows-tally in
    let f = next_frame c.args.totals.frame_id in
    let rows = row_at c.args.gt_ids.now c.args.pred_ids.now c.args.pair_rows.now c.args.pair_cols.now c.args.left_rows.now c.args.pairs in (
      ap length t.table ∙ (after_long rows f c.args.run.now c.args.totals (c.args.pairs + c.args.lefts) ∙ c.requires.used_bound.1),
      c.book_rows-tally.auto.places,
      c.book_rows-tally.auto.log,
      c.requires.lies.few,
      λ j p. rw (t.logged.place j p) (place_in rows f c.args.run.now c.args.totals c.requires.used_bound.0 j),
    )

pub returns-in-Err : goal.returns-in-Err
returns-in-Err c =
    let t = tried (goal.at.returns-in-Err c).After-book_rows-tally in
    let f = next_frame c.args.totals.frame_id in
    let rows = row_at c.args.gt_ids.now c.args.pred_ids.now c.args.pair_rows.now c.args.pair_cols.now c.args.left_rows.now c.args.pairs in
    let n = c.args.pairs + c.args.lefts in
    let places = c.book_rows-tally.new.places in
    let log = c.book_rows-tally.new.log in
    closing.refused c.args.run.now c.args.totals rows c.args.pairs c.args.lefts c.args.extra (length c.args.gt_ids.now) c.args.distance c.book_rows-tally.new.run c.book_rows-tally.result t.trial
    c.number.result (c.number.ensures ∙ c.in-Err.ensures) (λ z. closing.refusal_counts c.in-Err.refusal (sym c.number.ensures ∙ z)) c.undo.new.run
    (c.undo.ensures ∙ (ap (λ (x : List ℤ). undone x places log n) t.table ∙ undone_is rows f c.args.run.now c.args.totals n places log t.logged))
