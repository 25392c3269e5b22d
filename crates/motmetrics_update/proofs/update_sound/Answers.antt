-- `motmetrics_update::update_sound` meets its contract. Assumes nothing.
use mathlib.Core.Path.{refl, ◌∙◌}
use mir.Facts.{to_z-of_z}
use Rattle.motmetrics_update.proofs.Steps as law
use Rattle.motmetrics_update.proofs.update_sound.Goals as goal

pub book_frame-log-requires : goal.book_frame-log-requires
book_frame-log-requires c =
    let a = c.in-Ok.ensures.accepted in
    let f = law.shape c.args.s c.args.frame_id c.args.object_ids.now c.args.hypothesis_ids.now c.args.distances.now 0 a.shaped refl in
    record { object_ids_len_bound = (f.few_rows, f.few_columns, f.whole); fitting = law.fits c.args.s c.args.frame_id c.args.object_ids.now c.args.hypothesis_ids.now c.args.distances.now a.shaped _ a.paired; used_bound = a.room }

pub returns-in-Ok : goal.returns-in-Ok
returns-in-Ok c =
    let a = c.in-Ok.ensures.accepted in
    law.all_booked c.args.s c.args.frame_id c.args.object_ids.now c.args.hypothesis_ids.now c.args.distances.now _ (law.fits c.args.s c.args.frame_id c.args.object_ids.now c.args.hypothesis_ids.now c.args.distances.now a.shaped _ a.paired) _ a.booked _ refl a.room
    (c.book_frame-log.ensures ∙ rw (to_z-of_z c.ranges.frame_id) refl)
    ∙ law.books c.args.s c.args.frame_id c.args.object_ids.now c.args.hypothesis_ids.now c.args.distances.now a.shaped _ a.paired

pub returns-in-Err : goal.returns-in-Err
returns-in-Err c = rw c.number.ensures (c.in-Err.ensures.refused c.args.frame_id)
