-- The first k events of the frame stand after those of the log.
use mathlib.Core.Path.{refl}
use native.Mathlib.Omega.{arith}
use lib.ListN.{length}
use mir.Facts.{to_z-of_z}
use Rattle.booking.proofs.Written as law
use Rattle.booking.proofs.book_frame.Goals as goal

pub loop-k-init : goal.loop-k-init
loop-k-init c = law.none_written _ _ _

pub event_at-requires-clause-lists : goal.event_at-requires-clause-lists
event_at-requires-clause-lists c =
    let fits = c.requires.object_ids_len_bound in
    rw (c.left_of-left_rows.ensures, c.left_of-left_cols.ensures)
    (law.lists (length c.args.object_ids.now) (length c.args.hypothesis_ids.now) c.args.p c.requires.fitting fits.0 fits.1)

pub loop-k-preserved : goal.loop-k-preserved
loop-k-preserved c =
    law.one_written _ c.loop-k.log.events _ _ c.loop-k.k _ c.event_at.result c.loop-k.invariant c.event_at.ensures refl

pub returns : goal.returns
returns c =
    law.all_written c.args.log c.loop-k.log.events _ c.loop-k.k _ _ _ c.loop-k.invariant (omega arith) refl
    (rw (to_z-of_z c.ranges.frame, c.left_of-left_rows.ensures, c.left_of-left_cols.ensures)
    (law.all_events c.args.frame c.args.object_ids.now c.args.hypothesis_ids.now c.args.distances.now c.args.p c.args.switched.now c.requires.fitting))
