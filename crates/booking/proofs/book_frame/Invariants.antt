-- The first k events of the frame stand after those of the log.
use Rattle.booking.specs.Booking.{event_at}
use Rattle.booking.proofs.Written as law
use Rattle.booking.proofs.book_frame.Given as goal

abbrev pub invariant-loop-k : goal.invariant-loop-k
invariant-loop-k l =
    law.Writing l.initial.log.events l.start (event_at l.frame l.object_ids l.hypothesis_ids l.distances l.p.pairs l.switched l.p.used l.left_rows l.left_cols) l.log.events l.k
