-- `sorting::sort_run` meets its contract: the halves sorted and merged are the run sorted. Assumes nothing.
use Rattle.std.proofs.Common.{◌≤◌, ◌/◌, length, arith}
use Rattle.sorting.proofs.Halves as law
use Rattle.sorting.proofs.+sort_run.Goals as goal

pub returns : goal.returns
returns t c =
    let run = c.args.order.now in
    let f = c.requires.1 in
    let k = c.sort_run.auto.scratch in
    let j = c.sort_run-2.auto.scratch in
    let room : length run ≤ length c.sort_run-2.new.scratch = omega arith in
    law.ends c.args.keys.now run c.sort_run.new.order (length run / 2) (law.half (length run)) c.requires.0
    c.sort_run.ensures c.sort_run-2.new.order c.sort_run-2.ensures c.sort_run-2.new.scratch c.merge.new.out
    c.copy_front.new.to c.merge.ensures room c.copy_front.ensures
