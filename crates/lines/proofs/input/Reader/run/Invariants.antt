use Rattle.std.proofs.Common.{◌≡◌, false}
use Rattle.lines.specs.Cursors.{Onward}
use Rattle.lines.proofs.input.Reader.run.Given as goal

abbrev pub invariant-loop-place : goal.invariant-loop-place
invariant-loop-place g l = Onward l.initial.self l.self × (l.self.fault ≡ false)
