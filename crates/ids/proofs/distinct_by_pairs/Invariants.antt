-- `ids::distinct_by_pairs` meets its contract. The ids from place i on decide what all of them do. Assumes nothing.
use Rattle.std.proofs.Common.{◌≡◌, drop}
use Rattle.ids.specs.Ids.{distinct_of}
use Rattle.ids.proofs.distinct_by_pairs.Given as goal

abbrev pub invariant-loop-i : goal.invariant-loop-i
invariant-loop-i l = distinct_of (drop l.i l.ids) ≡ distinct_of l.ids
