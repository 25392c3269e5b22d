-- `ids::rising` meets its contract: unless one was met that does not, the ids before place i rise. Assumes nothing.
use Rattle.std.proofs.Common.{◌≡◌, true}
use Rattle.ids.proofs.Ascending.{Risen}
use Rattle.ids.proofs.rising.Given as goal

abbrev pub invariant-loop-i : goal.invariant-loop-i
invariant-loop-i l = l.up ≡ true → Risen l.ids l.i
