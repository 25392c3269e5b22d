-- `solver_flat::keep_pairs_at` meets its contract: the pairs of the first `row` rows are listed. Assumes nothing.
use mathlib.Core.Path.{refl, sym, ◌∙◌}
use native.Mathlib.Omega.{arith}
use lib.ListN.{length-set}
use Rattle.optimize.proofs.Listing.{real}
use Rattle.solver_flat.proofs.Turns as turns
use Rattle.solver_flat.proofs.keep_pairs_at.Goals as goal
use Rattle.solver_flat.proofs.keep_pairs_at.Goals.{else-passes, then-passes}

pub loop-row-init : goal.loop-row-init
loop-row-init c = turns.pairs_at_none _ _ c.requires.3 c.requires.4 c.requires.6 c.requires.7

pub overflow_add-out : goal.overflow_add-out
overflow_add-out c = omega (arith, turns.few_pairs c.loop-row.invariant)

pub offset_bounds-out-used : goal.offset_bounds-out-used
offset_bounds-out-used c = omega (arith, turns.few_pairs c.loop-row.invariant)

pub bounds-out-used : goal.bounds-out-used
bounds-out-used c = omega (arith, turns.few_pairs c.loop-row.invariant, c.loop-row.invariant.cols_at.same_len, c.loop-row.invariant.rows_at.same_len)

pub overflow_add-out-then-passes : goal.overflow_add-out-then-passes
overflow_add-out-then-passes c = omega (arith, turns.few_pairs c.loop-row.invariant)

pub offset_bounds-out-used-then-passes : goal.offset_bounds-out-used-then-passes
offset_bounds-out-used-then-passes c = omega (arith, turns.few_pairs c.loop-row.invariant)

pub bounds-out-used-then-passes : goal.bounds-out-used-then-passes
bounds-out-used-then-passes c = simp length-set (omega (arith, turns.few_pairs c.loop-row.invariant, c.loop-row.invariant.cols_at.same_len, c.loop-row.invariant.rows_at.same_len))

pub overflow_add-used : goal.overflow_add-used
overflow_add-used c = omega (arith, turns.few_pairs c.loop-row.invariant)

pub bounds-matched_cols-col : goal.bounds-matched_cols-col
bounds-matched_cols-col c =
    omega (arith, real c.args.cost.now c.args.cols c.args.max_cost c.args.row_match.now c.loop-row.row (sym c.passes.ensures ∙ c.if-passes.true))

pub loop-row-preserved : goal.loop-row-preserved
loop-row-preserved c =
    let v = c.loop-row.invariant in
    elim c.if-passes.branch [
      | then-passes w ↦ turns.pairs_at_as refl w.used-is w.matched_rows-is w.matched_cols-is w.out-is (turns.pairs_at_yes v c.requires.5 c.requires.1 (omega arith) (sym c.passes.ensures ∙ w.if-passes.true))
      | else-passes w ↦ turns.pairs_at_as refl w.used-is w.matched_rows-is w.matched_cols-is w.out-is (turns.pairs_at_no v (sym c.passes.ensures ∙ w.if-passes.false))
    ]
