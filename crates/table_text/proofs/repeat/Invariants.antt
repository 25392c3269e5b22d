use Rattle.lines.specs.Cursors.{Kept}
use Rattle.table_text.proofs.repeat.Given as goal

abbrev pub invariant-loop : goal.invariant-loop
invariant-loop l = Kept l.initial.w l.w
