-- `optimize::linear_sum_assignment` meets its contract, one case a return. Assumes nothing.
use mathlib.Core.Path.{refl, sym, ap, ◌∙◌}
use native.Mathlib.Omega.{arith}
use Rattle.optimize.specs.Answer.{empty_of}
use Rattle.optimize.proofs.Number.{fits}
use Rattle.optimize.proofs.Answers.{refused_at, no_rows_at, no_columns_at, found_at}
use Rattle.optimize.proofs.linear_sum_assignment.Goals as goal

pub returns-in-Err : goal.returns-in-Err
returns-in-Err c = refused_at c.in-Err.refusal c.in-Err.ensures (c.empty.ensures ∙ ap empty_of c.number.ensures)

pub returns-then-rows-eq0 : goal.returns-then-rows-eq0
returns-then-rows-eq0 c = no_rows_at c.in_default.ensures c.if-rows-eq0.true c.empty-then-rows-eq0.ensures

pub rows_alone-requires : goal.rows_alone-requires
rows_alone-requires c = (fits _ c.args.rows c.args.cols (sym c.in_default.ensures)).0

pub returns-then-cols-eq0 : goal.returns-then-cols-eq0
returns-then-cols-eq0 c = no_columns_at c.in_default.ensures (omega arith) c.if-cols-eq0.true c.rows_alone.ensures

pub hungarian_algorithm-found-requires : goal.hungarian_algorithm-found-requires
hungarian_algorithm-found-requires c = let f = fits _ c.args.rows c.args.cols (sym c.in_default.ensures) in (f.0, f.1, f.2, refl)

pub filtered-requires : goal.filtered-requires
filtered-requires c = let f = fits _ c.args.rows c.args.cols (sym c.in_default.ensures) in (f.0, f.1, f.2)

pub returns : goal.returns
returns c = found_at c.in_default.ensures (omega arith) (omega arith) c.hungarian_algorithm-found.ensures c.filtered.ensures
