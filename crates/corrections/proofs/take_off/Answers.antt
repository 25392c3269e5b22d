-- `corrections::take_off` meets its contract: `m` is taken so far off the first listed entries, and `zero` says whether one is a zero. Assumes nothing.
use Rattle.std.proofs.Common.{◌<◌, length}
use mathlib.Core.Path.{refl, sym, ◌∙◌}
use native.Mathlib.Omega.{arith}
use Rattle.std.proofs.lemmas.List.Elements.{All-get_or}
use Rattle.square.proofs.Truth.{not_both}
use Rattle.square.proofs.Square.{line_none, line_more}
use Rattle.corrections.proofs.LoopCode.{zeros_more}
use Rattle.corrections.proofs.take_off.Goals as goal
use Rattle.corrections.proofs.take_off.Goals.{else-is_zero, then-is_zero}

pub loop-col-init : goal.loop-col-init
loop-col-init c = (line_none _ _ _, λ _ s l. absurd (omega arith))

pub loop-col-preserved : goal.loop-col-preserved
loop-col-preserved c = (
  line_more _ _ c.loop-col.col-index _ _ _ c.loop-col.invariant.0 refl,
  λ f. elim c.if-is_zero.branch [
    | then-is_zero w ↦ not_both _ w.zero-is f
    | else-is_zero w ↦ zeros_more c.args.columns.now c.loop-col.entries c.loop-col.col-index _ (omega (arith, All-get_or (λ j. j < length c.args.entries.now) c.args.columns.now c.loop-col.col-index 0 c.loop-col-test.true c.requires.0))
        (c.loop-col.invariant.1 (sym w.zero-is ∙ f)) (sym c.is_zero.ensures ∙ w.if-is_zero.false)
  ],
)
