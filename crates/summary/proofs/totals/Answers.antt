-- `summary::totals` meets its contract. Assumes nothing.
use lib.IntN.{nat_abs}
use lib.Ieee.{of_bits}
use Rattle.counts.proofs.Ids.{told}
use Rattle.summary.proofs.totals.Goals as goal

pub returns : goal.returns
unfolding of_bits
returns c =
    let s = c.args.s in
    let m = told nat_abs s.num_matches c.struct_told-1.given.1.1.1.0.1 c.unsigned_abs-matches.ensures.value in
    let w = told nat_abs s.num_switches c.struct_told-2-1.given.1.1.1.1.1.1.0.1 c.unsigned_abs-switches.ensures.value in
    let x = told nat_abs s.num_misses c.struct_told-3-1.given.1.1.1.1.0.1 c.unsigned_abs-misses.ensures.value in
    let e = told nat_abs s.num_false_positives c.struct_told-4-1.given.1.1.1.1.1.0.1 c.unsigned_abs.ensures.value in
    let t = told nat_abs s.num_objects c.struct_told-5-1.given.1.1.1.1.1.1.1.0.1 c.unsigned_abs-2.ensures.value in
    rw (c.saturating_sub.ensures, m, w, x, e, t)
