-- `motmetrics_in_place::try_update` meets its contract. Assumes nothing.
use mathlib.Core.Path.{refl, sym, subst}
use lib.ListN.{length}
use mir.Facts.{to_z-of_z}
use Rattle.greedy.specs.Greedy.{Fitting}
use Rattle.motmetrics_update.proofs.Steps as steps
use Rattle.motmetrics_in_place.specs.Updated.{runs_of, state_of, closed_of}
use Rattle.motmetrics_in_place.proofs.Ways as ways
use Rattle.motmetrics_in_place.proofs.try_update.Goals as goal

pub returns-in_err-check_frame : goal.returns-in_err-check_frame
returns-in_err-check_frame c =
    ways.passed_on (runs_of c.args.numbers.now c.args.log_distances.now c.args.table.now) c.args.used c.args.frame_id c.args.object_ids.now c.args.hypothesis_ids.now c.args.distances.now
    _ _ c.in_err-check_frame.ensures c.from_residual.ensures.1

pub pair_by_distance-p-requires : goal.pair_by_distance-p-requires
pair_by_distance-p-requires c =
    let f = steps.shape (state_of (runs_of c.args.numbers.now c.args.log_distances.now c.args.table.now) c.args.used) c.args.frame_id c.args.object_ids.now c.args.hypothesis_ids.now c.args.distances.now 0 c.in_ok-check_frame.ensures refl in
    (f.few_rows, f.few_columns, f.whole)

pub try_book-requires : goal.try_book-requires
try_book-requires c =
    let f = steps.shape (state_of (runs_of c.args.numbers.now c.args.log_distances.now c.args.table.now) c.args.used) c.args.frame_id c.args.object_ids.now c.args.hypothesis_ids.now c.args.distances.now 0 c.in_ok-check_frame.ensures refl in record {
      within = c.requires;
      object_ids_len_bound = (f.few_rows, f.few_columns, f.whole);
      fitting = subst (Fitting (length c.args.object_ids.now) (length c.args.hypothesis_ids.now)) (sym c.pair_by_distance-p.ensures)
          (steps.pairing_fits (state_of (runs_of c.args.numbers.now c.args.log_distances.now c.args.table.now) c.args.used) c.args.frame_id c.args.object_ids.now c.args.hypothesis_ids.now c.args.distances.now f);
    }

pub returns : goal.returns
returns c =
    ways.paired (runs_of c.args.numbers.now c.args.log_distances.now c.args.table.now) c.args.used c.args.frame_id c.args.object_ids.now c.args.hypothesis_ids.now c.args.distances.now
    0 c.in_ok-check_frame.ensures refl c.pair_by_distance-p.result c.pair_by_distance-p.ensures
    (runs_of c.try_book.new.numbers c.try_book.new.log_distances c.try_book.new.table) (closed_of c.args.used c.try_book.result) (rw (to_z-of_z c.ranges.frame_id) at c.try_book.ensures)
