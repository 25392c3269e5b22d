-- `paths::bfs` meets its contract: the arrays hold the first `head` places of the queue, and within a row its first `col` columns. Assumes nothing.
use Prim.Native.Nat.{◌-◌}
use mathlib.Core.Path.{◌≡◌}
use Rattle.std.specs.Prelude.{None}
use Rattle.paths.specs.Inner.{Begins, hit_of}
use Rattle.paths.proofs.BfsCode as code
use Rattle.paths.proofs.bfs.Given as goal

abbrev pub invariant-loop-col : goal.invariant-loop-col
invariant-loop-col l =
    (bg : Begins l.n l.cols l.start) × code.ScanInv l.c l.n l.cols l.start bg l.head l.row l.from l.queue l.tail (hit_of l.hit) l.col × (l.hit ≡ None)

abbrev pub invariant-bfs : goal.invariant-bfs
invariant-bfs l =
    (bg : Begins l.n l.cols l.start) × code.BfsInv l.c l.n l.cols l.start bg l.from l.queue l.head l.tail (hit_of l.hit) × (l.hit ≡ None)

abbrev pub decreases-bfs : goal.decreases-bfs
decreases-bfs l = l.n - l.head
