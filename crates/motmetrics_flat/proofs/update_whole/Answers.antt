-- `motmetrics_flat::update_whole` meets its contract. Assumes nothing.
use mir.Facts.{to_z-of_z}
use native.Mathlib.Omega.{arith}
use mathlib.Core.List.{[], ◌∷◌}
use lib.ListN.{length-set}
use Rattle.sizes.proofs.Laws.{whole_written}
use Rattle.motmetrics_in_place.specs.Updated.{runs_of}
use Rattle.motmetrics_flat.proofs.Ways as ways
use Rattle.motmetrics_flat.proofs.update_whole.Goals as goal

pub bounds-used-0 : goal.bounds-used-0
bounds-used-0 c = let h = (ways.long _ _ _ _ c.requires).1 in omega arith

pub bounds-used-1 : goal.bounds-used-1
bounds-used-1 c = let h = (ways.long _ _ _ _ c.requires).1 in omega arith

pub update_checked-c-requires : goal.update_checked-c-requires
update_checked-c-requires c = (ways.long _ _ _ _ c.requires).0

pub returns-then-number-ne0 : goal.returns-then-number-ne0
returns-then-number-ne0 c =
    ways.kept (runs_of c.args.numbers.now c.args.log_distances.now c.args.table.now) c.args.used.now c.args.frame_id c.args.object_ids.now c.args.hypothesis_ids.now c.args.distances.now c.requires (runs_of c.update_checked-c.new.numbers c.update_checked-c.new.log_distances c.update_checked-c.new.table) c.update_checked-c.result (rw (to_z-of_z c.ranges.frame_id) at c.update_checked-c.ensures) c.if-number-ne0.true

pub bounds-used-0-2 : goal.bounds-used-0-2
bounds-used-0-2 c = let h = (ways.long _ _ _ _ c.requires).1 in omega arith

pub bounds-used-1-2 : goal.bounds-used-1-2
bounds-used-1-2 c = let h = (ways.long _ _ _ _ c.requires).1 in simp length-set (omega arith)

pub returns : goal.returns
returns c =
    ways.written (runs_of c.args.numbers.now c.args.log_distances.now c.args.table.now) c.args.used.now c.args.frame_id c.args.object_ids.now c.args.hypothesis_ids.now c.args.distances.now c.requires (runs_of c.update_checked-c.new.numbers c.update_checked-c.new.log_distances c.update_checked-c.new.table) c.update_checked-c.result (rw (to_z-of_z c.ranges.frame_id) at c.update_checked-c.ensures) c.if-number-ne0.false _
    (whole_written c.args.used.now (_ ∷ _ ∷ []) (ways.long _ _ _ _ c.requires).1)
