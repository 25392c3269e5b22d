-- The first k events of the frame stand from the start on.
use mathlib.Core.Path.{◌≡◌, sym, ap, ◌∙◌}
use Prim.Native.Nat.{ℕ, ◌-◌, ◌+◌}
use native.Mathlib.Omega.{arith}
use lib.ListN.{length, length-set}
use mir.Facts.{to_z-of_z}
use Rattle.event_columns.specs.Columns.{cells_of}
use Rattle.event_columns.proofs.Laws.{put_long}
use Rattle.booking.proofs.Written.{lists, all_events, event_count}
use Rattle.booking_in_place.proofs.Events as law
use Rattle.booking_in_place.proofs.book_frame.Goals as goal

pub loop-k-init : goal.loop-k-init
loop-k-init c =
    (c.requires.numbers_len.0, c.requires.numbers_len.1, law.none_written _ _ _ _)

pub event_at-event-requires-clause-lists : goal.event_at-event-requires-clause-lists
event_at-event-requires-clause-lists c =
    let fits = c.requires.object_ids_len_bound in
    rw (c.left_of-left_rows.ensures, c.left_of-left_cols.ensures)
    (lists (length c.args.object_ids.now) (length c.args.hypothesis_ids.now) c.args.p c.requires.fitting fits.0 fits.1)

pub loop-k-preserved : goal.loop-k-preserved
loop-k-preserved c = (
  ap length c.write.ensures.numbers_after ∙ (put_long c.loop-k.numbers _ _ ∙ c.loop-k.invariant.0),
  ap length c.write.ensures.distances_after ∙ (length-set c.loop-k.log_distances _ _ ∙ c.loop-k.invariant.1),
  law.one_written _ c.loop-k.numbers _ _ c.loop-k.log_distances _ _ c.loop-k.k _ c.from.result c.loop-k.invariant.2 (c.from.ensures ∙ ap cells_of c.event_at-event.ensures) c.write.ensures.numbers_after c.write.ensures.distances_after,
)

pub returns : goal.returns
returns c =
    let f = c.requires.fitting in
    let done : c.loop-k.k ≡ length c.args.object_ids.now + length c.args.hypothesis_ids.now - c.args.p.used = omega arith in
    let w =
    law.all_written _ c.loop-k.numbers _ c.loop-k.log_distances _ c.loop-k.k _ _ _ c.loop-k.invariant.2 done
    (rw (to_z-of_z c.ranges.frame, c.left_of-left_rows.ensures, c.left_of-left_cols.ensures)
    (all_events c.args.frame c.args.object_ids.now c.args.hypothesis_ids.now c.args.distances.now c.args.p c.args.switched.now f)) in
    record {
      value = ap (λ (n : ℕ). c.args.start + n) (sym (event_count c.args.frame c.args.object_ids.now c.args.hypothesis_ids.now c.args.distances.now c.args.p c.args.switched.now f));
      numbers_after = w.0;
      log_distances_after = w.1;
    }
