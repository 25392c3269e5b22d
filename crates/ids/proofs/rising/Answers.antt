-- `ids::rising` meets its contract: unless one was met that does not, the ids before place i rise. Assumes nothing.
use Rattle.std.proofs.Common.{arith}
use Rattle.ids.proofs.Ascending.{risen_distinct}
use Rattle.ids.proofs.rising.Goals as goal

pub returns : goal.returns
returns c = λ up. risen_distinct c.args.ids.now c.loop-i.i (omega arith) (c.loop-i.invariant up)
