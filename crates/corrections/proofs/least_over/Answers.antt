-- `corrections::least_over` meets its contract: `m` is the minimum of the rows so far, whatever C the columns are outside of. Assumes nothing.
use Prim.Native.Nat.{◌<◌}
use mathlib.Core.Path.{◌≡◌, sym, ap, ◌∙◌}
use native.Mathlib.Omega.{arith}
use lib.Seq.{get_or-take, length-take-le}
use lib.Ieee.{div, of_bits}
use mathlib.Core.Bool.{false}
use Rattle.corrections.specs.Correction.{least_rows}
use Rattle.corrections.proofs.LoopCode as code
use Rattle.corrections.proofs.least_over.Goals as goal
use Rattle.corrections.proofs.least_over.Goals.{then-marked, else-marked, After-loop-row}

pub loop-row-init : goal.loop-row-init
unfolding div of_bits
loop-row-init c = λ C p. sym (code.rows_none _ _ _ _)

pub least_row-m-requires : goal.least_row-m-requires
least_row-m-requires c = code.asked c.loop-row.row c.args.c.now c.args.columns.now c.args.used c.requires.2 (omega arith) (omega (arith, length-take-le c.args.n c.args.rs.now))

pub loop-row-preserved : goal.loop-row-preserved
loop-row-preserved c = λ C p.
    let lt : c.loop-row.row < c.args.n = omega (arith, length-take-le c.args.n c.args.rs.now) in
    let same = get_or-take c.args.n c.args.rs.now c.loop-row.row false lt in
    elim c.if-marked.branch [
      | then-marked w ↦ code.rows_on c.args.c.now c.args.n c.args.rs.now C c.loop-row.row _ _ (c.loop-row.invariant C p)
          (w.m-is ∙ w.least_row-m.ensures ∙ code.listed_row _ _ _ _ _ _ _ c.requires.2.inside p) (sym same ∙ w.if-marked.true)
      | else-marked w ↦ code.rows_off c.args.c.now c.args.n c.args.rs.now C c.loop-row.row _ _ (c.loop-row.invariant C p) w.m-is (sym same ∙ w.if-marked.false)
    ]

pub returns : goal.returns
returns c = λ C p.
    let e : c.loop-row.row ≡ c.args.n = omega (arith, length-take-le c.args.n c.args.rs.now) in
    c.loop-row.invariant C p ∙ ap (λ k. least_rows c.args.c.now c.args.n c.args.rs.now C k) e
