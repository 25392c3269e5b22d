use Rattle.lines.specs.Cursors.{Kept}
use Rattle.lines.proofs.output.Writer.run.Given as goal

abbrev pub invariant-loop-x : goal.invariant-loop-x
invariant-loop-x l = Kept l.initial.self l.self
