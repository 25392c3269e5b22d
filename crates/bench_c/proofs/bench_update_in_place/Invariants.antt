-- `bench_c::bench_update_in_place` is safe and ends. Assumes nothing.
use mathlib.Core.Path.{◌≡◌}
use Prim.Native.Nat.{◌≤◌}
use lib.ListN.{length}
use Rattle.bench_c.proofs.bench_update_in_place.Given as goal

abbrev pub invariant-updates : goal.invariant-updates
invariant-updates l = (l.totals.used ≤ 256) × (length l.run ≡ 2304)
