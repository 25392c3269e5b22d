-- `corrections::shift` meets its contract: past the first `row` rows the square is corrected so far, and the rows are marked. Assumes nothing.
use Prim.Native.Nat.{◌*◌, ◌≤◌}
use mathlib.Core.Path.{◌≡◌}
use lib.ListN.{length}
use Rattle.square.specs.Square.{over}
use Rattle.corrections.specs.Correction.{correction}
use Rattle.corrections.proofs.HotRows as hot-rows
use Rattle.corrections.proofs.shift.Given as goal

abbrev pub invariant-loop-row : goal.invariant-loop-row
invariant-loop-row l =
    (n64 : l.n ≤ 64) × (fits : l.n * 64 ≤ length l.initial.c) × (l.c ≡ over l.row l.n (correction l.rs l.cs l.m) l.initial.c) × hot-rows.HotInv l.n n64 l.rs l.cs l.m l.initial.c fits l.hot l.row
