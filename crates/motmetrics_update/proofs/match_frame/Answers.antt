-- `motmetrics_update::match_frame` meets its contract. Assumes nothing.
use mathlib.Core.Path.{refl, ◌∙◌}
use native.Mathlib.Omega.{arith}
use lib.IntN.{ℤ, pos}
use Rattle.greedy.proofs.Pairings.{pairs_long, pairs_inside}
use Rattle.motmetrics_update.proofs.Steps as law
use Rattle.motmetrics_update.proofs.match_frame.Goals as goal

pub returns-in_err-check_frame-clause-refused : goal.returns-in_err-check_frame-clause-refused
returns-in_err-check_frame-clause-refused c =
    law.passed_on _ _ _ c.from_residual.ensures.1
    (λ (frame : ℤ). law.misshapen c.args.s.now frame c.args.object_ids.now c.args.hypothesis_ids.now c.args.distances.now _ c.in_err-check_frame.ensures (law.some_number _))

pub pair_by_distance-p-requires : goal.pair_by_distance-p-requires
pair_by_distance-p-requires c = let f = law.shape c.args.s.now (pos 0) c.args.object_ids.now c.args.hypothesis_ids.now c.args.distances.now 0 c.in_ok-check_frame.ensures refl in (f.few_rows, f.few_columns, f.whole)

pub shared_ref_as_front-pairs : goal.shared_ref_as_front-pairs
shared_ref_as_front-pairs c = (law.fits c.args.s.now (pos 0) c.args.object_ids.now c.args.hypothesis_ids.now c.args.distances.now c.in_ok-check_frame.ensures _ c.pair_by_distance-p.ensures).few

pub slice_bounds-pairs-end : goal.slice_bounds-pairs-end
slice_bounds-pairs-end c = pairs_long _ _ _ (law.fits c.args.s.now (pos 0) c.args.object_ids.now c.args.hypothesis_ids.now c.args.distances.now c.in_ok-check_frame.ensures _ c.pair_by_distance-p.ensures)

pub book_matches-requires : goal.book_matches-requires
book_matches-requires c =
    let f = law.fits c.args.s.now (pos 0) c.args.object_ids.now c.args.hypothesis_ids.now c.args.distances.now c.in_ok-check_frame.ensures _ c.pair_by_distance-p.ensures in
    (c.requires.1, rw (← pairs_long _ _ c.pair_by_distance-p.result f) f.few, pairs_inside _ _ c.pair_by_distance-p.result f)

pub overflow_sub-count : goal.overflow_sub-count
overflow_sub-count c = let f = law.fits c.args.s.now (pos 0) c.args.object_ids.now c.args.hypothesis_ids.now c.args.distances.now c.in_ok-check_frame.ensures _ c.pair_by_distance-p.ensures in omega (arith, f.rows)

pub returns-in_default-clause-refused : goal.returns-in_default-clause-refused
returns-in_default-clause-refused c =
    λ (frame : ℤ).
    law.table_full c.args.s.now frame c.args.object_ids.now c.args.hypothesis_ids.now c.args.distances.now c.pair_by_distance-p.result (law.fits c.args.s.now frame c.args.object_ids.now c.args.hypothesis_ids.now c.args.distances.now c.in_ok-check_frame.ensures _ c.pair_by_distance-p.ensures) _ c.in_default.ensures refl
    ∙ law.books c.args.s.now frame c.args.object_ids.now c.args.hypothesis_ids.now c.args.distances.now c.in_ok-check_frame.ensures _ c.pair_by_distance-p.ensures

pub returns-then-s-count-gt1024-clause-refused : goal.returns-then-s-count-gt1024-clause-refused
returns-then-s-count-gt1024-clause-refused c =
    λ (frame : ℤ).
    law.log_full c.args.s.now frame c.args.object_ids.now c.args.hypothesis_ids.now c.args.distances.now c.pair_by_distance-p.result (law.fits c.args.s.now frame c.args.object_ids.now c.args.hypothesis_ids.now c.args.distances.now c.in_ok-check_frame.ensures _ c.pair_by_distance-p.ensures) _ c.in-Some.ensures refl c.if-s-count-gt1024.true
    ∙ law.books c.args.s.now frame c.args.object_ids.now c.args.hypothesis_ids.now c.args.distances.now c.in_ok-check_frame.ensures _ c.pair_by_distance-p.ensures

pub returns-clause-accepted : goal.returns-clause-accepted
returns-clause-accepted c =
    record { shaped = c.in_ok-check_frame.ensures; paired = c.pair_by_distance-p.ensures; booked = c.in-Some.ensures; room = c.if-s-count-gt1024.false }
