-- `search::free_rows` meets its contract: a test that fails for some row finds one that is free. Assumes nothing.
use Prim.Native.Nat.{◌<◌}
use mathlib.Core.Path.{sym, ◌∙◌}
use native.Mathlib.Omega.{arith}
use lib.ListN.{length-set}
use lib.Seq.{get_or-take, length-take-le}
use Rattle.search.proofs.FreeRows.{all_are, marks_more, one_is_not}
use Rattle.search.proofs.free_rows.Goals as goal

pub returns-then-all_paired : goal.returns-then-all_paired
returns-then-all_paired c = all_are c.args.n c.args.rows.now (omega arith) (sym c.all_paired.ensures ∙ c.if-all_paired.true)

pub loop-row-preserved : goal.loop-row-preserved
loop-row-preserved c =
    let l : c.loop-row.row < c.args.n = omega (arith, length-take-le c.args.n c.args.rows.now) in
    let v = c.loop-row.invariant in (
      length-set c.loop-row.free c.loop-row.row _ ∙ v.0,
      rw (get_or-take c.args.n c.args.rows.now c.loop-row.row 0 l) (marks_more c.args.n c.args.rows.now c.loop-row.free c.loop-row.row (omega arith) v.1),
    )

pub returns : goal.returns
returns c = (
  c.loop-row.invariant.0,
  record {
    marks = λ k l. c.loop-row.invariant.1 k (omega (arith, length-take-le c.args.n c.args.rows.now));
    some = one_is_not c.args.n c.args.rows.now (omega arith) (sym c.all_paired.ensures ∙ c.if-all_paired.false);
  },
)
