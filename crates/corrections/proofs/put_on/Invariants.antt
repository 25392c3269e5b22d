-- `corrections::put_on` meets its contract: `m` is added so far to the first listed entries. Assumes nothing.
use Rattle.std.proofs.Common.{◌≡◌}
use Rattle.std.specs.Float.{binary64}
use Rattle.std.specs.Float.Ieee.{add}
use Rattle.square.specs.Square.{line}
use Rattle.corrections.specs.Inner.{Listed}
use Rattle.corrections.proofs.put_on.Given as goal

abbrev pub invariant-loop-col : goal.invariant-loop-col
invariant-loop-col l = l.entries ≡ line (Listed l.columns) l.col-index (λ _ x. add binary64 x l.m) l.initial.entries
