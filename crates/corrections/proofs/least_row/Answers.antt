-- `corrections::least_row` meets its contract: the minimum over the columns from `t` on, with the minimum so far, is that over all. Assumes nothing.
use mathlib.Core.Path.{sym, ◌∙◌}
use Rattle.corrections.proofs.LoopCode.{all_passed, reached}
use Rattle.corrections.proofs.least_row.Goals as goal

pub loop-t-init : goal.loop-t-init
loop-t-init c = let b = c.next_below-t.ensures.below in (b.1, sym b.2, b.3)

pub loop-t-preserved : goal.loop-t-preserved
loop-t-preserved c =
    let b = c.next_below-t-in-loop-t.ensures.below in
    (b.1, sym b.2 ∙ sym (reached c.args.line.now c.args.columns.now c.loop-t.m c.loop-t.t c.loop-t-test.true (c.loop-t.invariant.2 c.loop-t-test.true)) ∙ c.loop-t.invariant.1, b.3)

pub returns : goal.returns
returns c = sym (all_passed c.args.line.now c.args.columns.now c.loop-t.m c.loop-t.t c.loop-t-test.false) ∙ c.loop-t.invariant.1
