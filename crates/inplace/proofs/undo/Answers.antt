-- `inplace::undo` meets its contract. What is left to put back is the log's first k rows. Assumes nothing.
use mathlib.Core.Path.{◌≡◌, sym, ap, ◌∙◌}
use Prim.Native.Nat.{◌-◌}
use native.Mathlib.Omega.{arith}
use mathlib.Core.List.{List}
use lib.IntN.{ℤ}
use lib.ListN.{length, get_or}
use Rattle.columns.specs.Columns.{put}
use Rattle.columns.proofs.Laws.{put_long}
use Rattle.inplace.specs.InPlace.{undone}
use Rattle.inplace.proofs.Turns.{undone_less}
use Rattle.inplace.proofs.undo.Goals as goal

pub loop-k-preserved : goal.loop-k-preserved
loop-k-preserved c =
    let h = c.loop-k-test.true in
    let e = c.write.ensures ∙ ap (put c.loop-k.run 256 (get_or c.args.places.now (c.loop-k.k - 1) 0)) c.read.ensures in (
      ap length e ∙ (put_long c.loop-k.run 256 _ _ ∙ c.loop-k.invariant.0),
      ap (λ (x : List ℤ). undone x c.args.places.now c.args.log.now (c.loop-k.k - 1)) e
          ∙ (undone_less c.loop-k.run c.args.places.now c.args.log.now c.loop-k.k (omega arith) ∙ c.loop-k.invariant.1),
    )

pub returns : goal.returns
unfolding undone
returns c =
    let z : c.loop-k.k ≡ 0 = (let h = c.loop-k-test.false in omega arith) in
    sym (ap (undone c.loop-k.run c.args.places.now c.args.log.now) z) ∙ c.loop-k.invariant.1
