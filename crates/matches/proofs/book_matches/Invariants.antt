-- `matches::book_matches` meets its contract. The pairs passed are booked in the table in use, and the rest are to come. Assumes nothing.
use Rattle.partners.specs.Partners.{pairs_of}
use Rattle.partners.proofs.Turns as law
use Rattle.matches.proofs.book_matches.Given as goal

abbrev pub invariant-loop-i : goal.invariant-loop-i
invariant-loop-i l =
    law.Booking l.fn.t (pairs_of l.object_ids l.hypothesis_ids l.pairs) l.truths.ids l.truths.lasts l.truths.used l.switched l.i
