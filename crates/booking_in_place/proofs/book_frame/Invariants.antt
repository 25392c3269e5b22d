-- The first k events of the frame stand from the start on.
use Rattle.std.proofs.Common.{◌≡◌, length}
use Rattle.booking.specs.Booking.{event_at}
use Rattle.booking_in_place.proofs.Events as law
use Rattle.booking_in_place.proofs.book_frame.Given as goal

abbrev pub invariant-loop-k : goal.invariant-loop-k
invariant-loop-k l =
    (length l.numbers ≡ 4096) × (length l.log_distances ≡ 1024)
    × law.Writing l.initial.numbers l.initial.log_distances l.start (event_at l.frame l.object_ids l.hypothesis_ids l.distances l.p.pairs l.switched l.p.used l.left_rows l.left_cols) l.numbers l.log_distances l.k
