-- `square::pick` meets its contract: those below `i` are picked. Assumes nothing.
use Rattle.square.specs.Index.{Picked}
use Rattle.square.proofs.pick.Given as goal

abbrev pub invariant-loop-i : goal.invariant-loop-i
invariant-loop-i l = Picked l.wanted l.marks l.i l.places l.used
