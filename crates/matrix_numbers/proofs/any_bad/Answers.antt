use Rattle.matrix_numbers.specs.Numbers.{any_bad}
use Rattle.matrix_numbers.proofs.Laws.{any_true}
use native.Mathlib.Numerals.{add-one}
use mathlib.Core.Path.{refl, sym, ap, ◌∙◌}
use Rattle.iou.specs.Boxes.{bad_box}
use Rattle.matrix_numbers.proofs.any_bad.Goals as goal

pub loop-i-init : goal.loop-i-init
loop-i-init c = unfold any_bad in refl

pub returns-then-is_bad : goal.returns-then-is_bad
returns-then-is_bad c = sym (any_true _ _ _ c.loop-i-test.true (ap bad_box (sym c.box_at.ensures) ∙ sym c.is_bad.ensures ∙ c.if-is_bad.true))

pub loop-i-preserved : goal.loop-i-preserved
unfolding any_bad
loop-i-preserved c = rw (add-one, c.loop-i.invariant, ← c.box_at.ensures, ← c.is_bad.ensures, c.if-is_bad.false)
