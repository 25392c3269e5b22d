-- `pairing::indices` meets its contract: after k turns the first k places are copied. Assumes nothing.
use mathlib.Core.Path.{◌≡◌}
use lib.ListN.{length}
use Rattle.optimize.specs.declared.Assignment.{Assignment}
use Rattle.pairing.proofs.Copies.{Copied}
use Rattle.pairing.proofs.indices.Given as goal

abbrev pub invariant-loop-k : goal.invariant-loop-k
invariant-loop-k l =
    (length l.assignments ≡ 64)
    × Copied (λ (a : Assignment). a.row_idx) l.assignments l.k l.rows
    × Copied (λ (a : Assignment). a.col_idx) l.assignments l.k l.cols
