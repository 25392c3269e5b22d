-- `pairing::indices` meets its contract. Assumes nothing.
use mathlib.Core.Path.{refl}
use Rattle.optimize.specs.declared.Assignment.{Assignment}
use Rattle.pairing.proofs.Copies.{copied_more}
use Rattle.pairing.proofs.indices.Goals as goal

pub loop-k-preserved : goal.loop-k-preserved
loop-k-preserved c =
    let i = c.loop-k.invariant in (
      i.0,
      copied_more (λ (a : Assignment). a.row_idx) refl _ c.loop-k.k _ c.loop-k-test.true i.1,
      copied_more (λ (a : Assignment). a.col_idx) refl _ c.loop-k.k _ c.loop-k-test.true i.2,
    )
