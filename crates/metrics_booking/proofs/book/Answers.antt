-- `metrics_booking::book` meets its contract. Assumes nothing.
use mathlib.Core.Path.{refl, ◌∙◌}
use mir.Facts.{to_z-of_z}
use Rattle.metrics_booking.proofs.Steps as law
use Rattle.metrics_booking.proofs.book.Goals as goal

pub book_frame-log-requires : goal.book_frame-log-requires
book_frame-log-requires c =
    record { object_ids_len_bound = c.requires.gt_ids_len_bound; fitting = c.requires.fitting; used_bound = c.in-Ok.ensures.accepted.room }

pub returns-in-Ok : goal.returns-in-Ok
returns-in-Ok c =
    law.accepted c.args.s c.args.frame c.args.gt_ids.now c.args.hyp_ids.now c.args.distances.now c.args.p c.requires.fitting _ c.in-Ok.ensures.accepted _
    (c.book_frame-log.ensures ∙ rw (to_z-of_z c.ranges.frame) refl)

pub returns-in-Err : goal.returns-in-Err
returns-in-Err c = rw c.number.ensures (c.in-Err.ensures.refused c.args.frame c.args.distances.now)
