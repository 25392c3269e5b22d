-- `corrections::shift` meets its contract: past the first `row` rows the square is corrected so far, and the rows are marked. Assumes nothing.
use Prim.Native.Nat.{◌+◌, ◌*◌, ◌<◌, ◌≤◌}
use mathlib.Core.Path.{◌≡◌, refl, sym, ap, ◌∙◌}
use mathlib.Core.Bool.{false}
use native.Mathlib.Omega.{arith}
use lib.ListN.{length}
use lib.Seq.{get_or-take, length-take-le}
use Rattle.square.proofs.Square.{over_none, over_more, over_end, over-length}
use Rattle.square.proofs.Picking.{picked_few}
use Rattle.corrections.specs.Correction.{correction}
use Rattle.corrections.proofs.HotRows as hot-rows
use Rattle.corrections.proofs.LoopCode as code
use Rattle.corrections.proofs.shift.Goals as goal
use Rattle.corrections.proofs.shift.Goals.{In-loop-row, After-loop-row, else-marked, then-marked}

row_in : (c : In-loop-row) → c.loop-row.row < c.args.n
row_in c = let n64 = c.requires.0 in omega (arith, length-take-le c.args.n c.args.rs.now)

row_fits : (c : In-loop-row) → c.loop-row.row * 64 + 64 ≤ length c.loop-row.c
row_fits c =
    let v = c.loop-row.invariant in
    let same : length c.loop-row.c ≡ length c.args.c.now = ap length v.2 ∙ over-length _ _ c.loop-row.row _ in
    omega (arith, row_in c)

pub shared_ref_as_front-away : goal.shared_ref_as_front-away
shared_ref_as_front-away c = let n64 = c.requires.0 in omega (arith, picked_few false c.args.cs.now c.args.n c.args.away.now c.args.aways c.requires.2)

pub slice_bounds-inside-end : goal.slice_bounds-inside-end
slice_bounds-inside-end c = let n64 = c.requires.0 in omega (arith, picked_few _ _ _ _ _ c.pick-homes.ensures)

pub slice_bounds-home-end : goal.slice_bounds-home-end
slice_bounds-home-end c = let n64 = c.requires.0 in sym (length-take-le _ _ (omega (arith, picked_few _ _ _ _ _ c.pick-homes.ensures)))

pub loop-row-init : goal.loop-row-init
loop-row-init c =
    (c.requires.0, c.requires.1, over_none _ _ _, hot-rows.hot_none _ c.requires.0 _ _ _ _ c.requires.1 _ c.requires.3)

pub take_off-requires : goal.take_off-requires
take_off-requires c =
    let v = code.asked c.loop-row.row c.loop-row.c c.args.away.now c.args.aways (hot-rows.columns_of _ _ _ _ _ c.requires.0 c.requires.2) (omega (arith, picked_few false c.args.cs.now c.args.n c.args.away.now c.args.aways c.requires.2)) (row_fits (goal.at.take_off-requires c).In-loop-row) in
    (v.0, v.2)

pub put_on-requires : goal.put_on-requires
put_on-requires c =
    let v = code.asked c.loop-row.row c.loop-row.c c.pick-homes.new.places c.pick-homes.result (hot-rows.columns_of _ _ _ _ _ c.requires.0 c.pick-homes.ensures) (omega (arith, picked_few _ _ _ _ _ c.pick-homes.ensures)) (row_fits (goal.at.put_on-requires c).In-loop-row) in
    (v.0, v.2)

pub loop-row-preserved : goal.loop-row-preserved
loop-row-preserved c =
    let v = c.loop-row.invariant in
    let k = c.loop-row.row in
    let lk : k < c.args.n = omega (arith, length-take-le c.args.n c.args.rs.now) in
    let fits : k * 64 + 64 ≤ length c.loop-row.c = row_fits (goal.at.loop-row-preserved c).In-loop-row in
    let same = get_or-take c.args.n c.args.rs.now k false lk in
    elim c.if-marked.branch [
      | then-marked w ↦
          let p = c.requires.2 in
          let columns = hot-rows.columns_of _ _ _ _ _ c.requires.0 p in
          let le : c.args.aways ≤ length c.args.away.now = omega (arith, picked_few false c.args.cs.now c.args.n c.args.away.now c.args.aways p) in
          let e = over_more _ _ k _ _ _ v.2 (code.put_back k c.loop-row.c fits c.args.away.now c.args.aways columns le _ w.take_off.new.entries w.take_off.ensures.taken
          ∙ code.row_less c.args.rs.now c.args.cs.now _ k _ _ _ (sym same ∙ w.if-marked.true) p _) in (
            v.0,
            v.1,
            w.c-is ∙ e,
            hot-rows.hot_at _ v.0 _ _ _ _ v.1 _ _ _ w.hot-is
                (hot-rows.hot_row _ v.0 _ _ _ _ v.1 _ k v.3 lk _ _ _ p _ e (sym same ∙ w.if-marked.true)
                (λ f. code.zeros_back k c.loop-row.c fits c.args.away.now c.args.aways columns le (λ x. x) w.take_off.new.entries (w.take_off.auto.entries ∙ code.row_of-length k c.loop-row.c fits) (w.take_off.ensures.zeros f))),
          )
      | else-marked w ↦
          let p = c.pick-homes.ensures in
          let columns = hot-rows.columns_of _ _ _ _ _ c.requires.0 p in
          let le : c.pick-homes.result ≤ length c.pick-homes.new.places = omega (arith, picked_few _ _ _ _ _ p) in (
            v.0,
            v.1,
            over_more _ _ k _ _ _ v.2 (w.c-is ∙ code.put_back k c.loop-row.c fits c.pick-homes.new.places c.pick-homes.result columns le _ w.put_on.new.entries w.put_on.ensures
                ∙ code.row_more c.args.rs.now c.args.cs.now _ k _ _ _ (sym same ∙ w.if-marked.false) p _),
            hot-rows.hot_at _ v.0 _ _ _ _ v.1 _ _ _ w.hot-is (hot-rows.hot_other _ v.0 _ _ _ _ v.1 _ k v.3 lk _ refl (sym same ∙ w.if-marked.false)),
          )
    ]

pub returns : goal.returns
returns c =
    let v = c.loop-row.invariant in
    let all : c.args.n ≤ c.loop-row.row = omega (arith, length-take-le c.args.n c.args.rs.now) in
    let e = over_end c.args.n (correction c.args.rs.now c.args.cs.now c.args.m) c.loop-row.row c.args.n _ _ (omega (arith, length-take-le c.args.n c.args.rs.now)) v.2 in
    record { shifted = e; marked = hot-rows.hot_end _ v.0 _ _ _ _ v.1 _ c.loop-row.row _ all e v.3 }
