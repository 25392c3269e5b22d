-- `id_runs::ids_fit` meets its contract. Assumes nothing.
use Rattle.std.proofs.Common.{◌+◌, ◌≤◌, ◌∙◌, arith, length}
use borrow.Author.Tests.{le-leb}
use Rattle.id_runs.proofs.Counting.{all_short, fits}
use Rattle.id_runs.proofs.ids_fit.Goals as goal

pub returns-then-known-ids : goal.returns-then-known-ids
returns-then-known-ids c =
    let h = all_short c.args.known.now c.args.ids.now in
    let n : length c.args.known.now + length c.args.ids.now ≤ c.args.room = omega arith in
    le-leb _ _ n ∙ fits c.args.room c.args.known.now c.args.ids.now (omega arith)
