use Rattle.lines.specs.Cursors.{Kept}
use Rattle.lines.proofs.output.Writer.text.Given as goal

abbrev pub invariant-loop-b : goal.invariant-loop-b
invariant-loop-b l = Kept l.initial.self l.self
