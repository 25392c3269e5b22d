-- `solver_flat::list_unmarked_at` meets its contract: the picked ones are written over 64 clear places. Assumes nothing.
use Prim.Native.Nat.{ℕ}
use mathlib.Core.Path.{ap}
use native.Mathlib.Omega.{arith}
use lib.ListN.{length, length-replicate}
use Rattle.solver_flat.proofs.Turns.{picked_at}
use Rattle.solver_flat.proofs.list_unmarked_at.Goals as goal

pub returns : goal.returns
returns c =
    picked_at _ c.args.at _ _ _ _ _
    c.requires.1
    (omega arith)
    (omega (arith, c.pick.auto.places, ap length c.requires.2, length-replicate {A = ℕ} 64 0))
    c.pick.ensures
