-- The numbers before the index are changed, and the rest is to come.
use Rattle.std.proofs.Common.{◌≡◌}
use lib.Ieee.{Float}
use Rattle.greedy_pairs.proofs.InPlace.{Changing}
use Rattle.greedy_pairs.proofs.change_each.Given as goal

abbrev pub invariant-loop-x : goal.invariant-loop-x
invariant-loop-x g l =
    goal.F-IsAlwaysCallable g l.f
    × ((change : Float → Float) → ((x r : Float) → goal.F-post g l.f x r → r ≡ change x) → Changing change l.initial.run l.run l.x-index)
