-- `optimize::keep_pairs` meets its contract: the pairs of the first `row` rows are listed. Assumes nothing.
use Prim.Native.Nat.{◌+◌}
use mathlib.Core.Path.{refl, sym, ◌∙◌, subst}
use native.Mathlib.Omega.{arith}
use Rattle.optimize.specs.Inner.{Listed}
use Rattle.optimize.specs.declared.Kept.{Kept}
use Rattle.optimize.proofs.Listing as code
use Rattle.optimize.proofs.keep_pairs.Goals as goal
use Rattle.optimize.proofs.keep_pairs.Goals.{else-passes, then-passes}

pub loop-row-init : goal.loop-row-init
loop-row-init c = code.listed_none _ _ _ _ _ _ refl refl

pub offset_bounds-kept-kept : goal.offset_bounds-kept-kept
offset_bounds-kept-kept c = omega (arith, code.few _ _ _ _ _ _ _ _ _ c.loop-row.invariant)

pub bounds-kept-kept : goal.bounds-kept-kept
bounds-kept-kept c = omega (arith, code.few _ _ _ _ _ _ _ _ _ c.loop-row.invariant)

pub overflow_add-kept : goal.overflow_add-kept
overflow_add-kept c = omega (arith, code.few _ _ _ _ _ _ _ _ _ c.loop-row.invariant)

pub bounds-kept-col : goal.bounds-kept-col
bounds-kept-col c =
    omega (arith, code.real c.args.cost.now c.args.cols c.args.max_cost c.args.row_match.now c.loop-row.row (sym c.passes.ensures ∙ c.if-passes.true))

pub loop-row-preserved : goal.loop-row-preserved
loop-row-preserved c =
    let v = c.loop-row.invariant in
    let P : Kept → Type 0 = λ k. Listed c.args.cost.now c.args.cols c.args.max_cost c.args.row_match.now (c.loop-row.row + 1) k.assignments k.used k.rows k.cols in
    elim c.if-passes.branch [
      | then-passes w ↦ subst P (sym w.kept-is) (code.listed_yes _ _ _ _ _ _ _ _ _ v (omega arith) (omega arith) (sym c.passes.ensures ∙ w.if-passes.true))
      | else-passes w ↦ subst P (sym w.kept-is) (code.listed_no _ _ _ _ _ _ _ _ _ v (sym c.passes.ensures ∙ w.if-passes.false))
    ]
