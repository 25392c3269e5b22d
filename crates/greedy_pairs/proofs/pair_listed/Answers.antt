-- `greedy_pairs::pair_listed` meets its contract. Assumes nothing.
use mathlib.Core.Path.{sym, subst}
use Prim.Native.Nat.{◌<◌, ◌*◌}
use Rattle.sorting.specs.Order.{Each}
use Rattle.sorting.proofs.Permutes.{each_still}
use Rattle.greedy_pairs.proofs.pair_listed.Goals as goal

pub take_pairs-requires : goal.take_pairs-requires
take_pairs-requires c =
    (c.requires.0, c.requires.1, subst (Each (λ k. k < c.args.n * c.args.w)) (sym c.sort_by_key.ensures) (each_still c.args.keys.now (λ k. k < c.args.n * c.args.w) c.args.order.now c.requires.4))
