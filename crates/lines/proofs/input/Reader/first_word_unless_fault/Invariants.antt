use Rattle.std.proofs.Common.{◌≡◌, false}
use Rattle.lines.specs.Cursors.{Onward}
use Rattle.lines.proofs.input.Reader.first_word_unless_fault.Given as goal

abbrev pub invariant-loop-n : goal.invariant-loop-n
invariant-loop-n l = Onward l.initial.self l.self × (l.self.fault ≡ false)
