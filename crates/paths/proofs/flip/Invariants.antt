-- `paths::flip` meets its contract: what is flipped so far and a flip from here make the whole flip. Assumes nothing.
use Rattle.paths.proofs.FlipCode as code
use Rattle.paths.proofs.flip.Given as goal

abbrev pub invariant-loop-h : goal.invariant-loop-h
invariant-loop-h l = code.FlipInv l.from l.queue l.hit l.initial.rows l.initial.cols l.rows l.cols l.col l.h

abbrev pub decreases-loop-h : goal.decreases-loop-h
decreases-loop-h l = l.h
