use Rattle.lines.specs.Cursors.{Onward}
use Rattle.lines.proofs.input.Reader.skip_line.Given as goal

abbrev pub invariant-loop : goal.invariant-loop
invariant-loop l = Onward l.initial.self l.self
