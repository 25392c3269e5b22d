-- The tally of a log's used events has few in it. Assumes nothing.
use mathlib.Core.List.{List, [], ◌∷◌}
use Prim.Native.Nat.{ℕ, zero, suc, ◌≤◌}
use native.Mathlib.Omega.{arith}
use lib.ListN.{length, take}
use Rattle.events.specs.declared.Event.{Event}
use Rattle.events.specs.Events.{tally_of}
use Rattle.events.proofs.Tallies.{all_counted, truths_counted}
use Rattle.scores.specs.Scores.{Few}

taken : (n : ℕ) (es : List Event) → length (take n es) ≤ n
taken zero es = omega arith
taken (suc n) [] = omega arith
taken (suc n) (e ∷ es) = let h = taken n es in omega arith

pub few : (used : ℕ) (es : List Event) → used ≤ 1024 → Few (tally_of (take used es))
few used es h =
    let a = all_counted (take used es) in
    let b = truths_counted (take used es) in
    let n = taken used es in
    record { cases = omega arith; truths = omega arith }
