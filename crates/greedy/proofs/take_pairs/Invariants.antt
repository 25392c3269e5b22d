-- The pairing holds what is taken of the pairs so far.
use Rattle.std.proofs.Common.{◌≡◌, take}
use Rattle.greedy.specs.Greedy.{pairing_of}
use Rattle.greedy.proofs.take_pairs.Given as goal

abbrev pub invariant-loop-place : goal.invariant-loop-place
invariant-loop-place l = l.p ≡ pairing_of l.w (take l.place-index l.order)
