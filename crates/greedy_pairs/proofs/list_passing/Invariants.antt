-- The front of order lists the places before the index that pass.
use Rattle.std.proofs.Common.{◌≡◌, ◌≤◌, Bool, length}
use lib.Ieee.{Float}
use Rattle.greedy_pairs.proofs.Listing.{Listing}
use Rattle.greedy_pairs.proofs.list_passing.Given as goal

abbrev pub invariant-loop-i : goal.invariant-loop-i
invariant-loop-i g l =
    goal.F-IsAlwaysCallable g l.passes × (l.used ≤ l.i)
    × ((test : Float → Bool) → ((x : Float) (r : Bool) → goal.F-post g l.passes x r → r ≡ test x) → Listing test l.entries (length l.initial.order) l.order l.used l.i)
