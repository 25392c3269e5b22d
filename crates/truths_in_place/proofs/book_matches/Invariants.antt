-- `truths_in_place::book_matches` meets its contract. The pairs passed are booked in the run, and the rest are to come. Assumes nothing.
use Rattle.partners.specs.Partners.{pairs_of}
use Rattle.truths_in_place.proofs.Turns as law
use Rattle.truths_in_place.proofs.book_matches.Given as goal

abbrev pub invariant-loop-i : goal.invariant-loop-i
invariant-loop-i l =
    law.Booking l.initial.table l.used (pairs_of l.object_ids l.hypothesis_ids l.pairs) l.table l.count l.switched l.i
