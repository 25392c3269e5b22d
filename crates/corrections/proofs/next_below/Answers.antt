-- `corrections::next_below` meets its contract: no entry from `from` to `t` is smaller than `m`. Assumes nothing.
use mathlib.Core.Path.{◌∙◌}
use native.Mathlib.Omega.{arith}
use Rattle.corrections.proofs.LoopCode.{none_below, passed}
use Rattle.corrections.proofs.next_below.Goals as goal

pub loop-t-preserved : goal.loop-t-preserved
loop-t-preserved c = (
  omega arith,
  omega arith,
  c.loop-t.invariant.2 ∙ passed c.args.line.now c.args.columns.now c.args.m c.loop-t.t (omega arith) c.if-line-columns.false,
  none_below c.args.line.now c.args.columns.now c.args.m c.args.from c.loop-t.t c.loop-t.invariant.3 c.if-line-columns.false,
)
