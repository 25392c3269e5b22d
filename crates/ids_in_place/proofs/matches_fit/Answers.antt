-- `ids_in_place::matches_fit` meets its contract. Assumes nothing.
use mathlib.Core.Path.{ap, ◌∙◌}
use mathlib.Core.List.{List}
use Prim.Native.Nat.{ℕ, ◌/◌}
use native.Mathlib.Omega.{arith}
use lib.IntN.{ℤ, pos}
use lib.ListN.{length, take, get_or, length-map}
use lib.Seq.{length-take-le}
use Rattle.id_runs.specs.Runs.{fit_in, row_ids_of}
use Rattle.id_runs.proofs.Counting.{all_short, fits}
use Rattle.truths_in_place.proofs.Room.{matches_told}
use Rattle.ids_in_place.proofs.matches_fit.Goals as goal

pub returns-then-used-pairs-le256 : goal.returns-then-used-pairs-le256
returns-then-used-pairs-le256 c =
    let l = row_ids_of c.args.object_ids.now (length c.args.hypothesis_ids.now) c.args.pairs.now in
    let n = c.requires.0 in
    let m = c.requires.1 in
    let h = all_short (take c.args.used c.args.table.now) l in
    let k = length-take-le c.args.used c.args.table.now (omega arith) in
    let j = length-map c.args.pairs.now (λ (k : ℕ). get_or c.args.object_ids.now (k / length c.args.hypothesis_ids.now) (pos 0)) in
    let t = c.if-used-pairs-le256.true in
    fits 256 (take c.args.used c.args.table.now) l (omega arith) ∙ matches_told c.args.table.now c.args.used n c.args.object_ids.now c.args.hypothesis_ids.now c.args.pairs.now

pub returns : goal.returns
returns c =
    c.ids_fit.ensures
    ∙ (ap (λ (l : List ℤ). fit_in 256 (take c.args.used c.args.table.now) l) c.matched_ids-ids.ensures
    ∙ matches_told c.args.table.now c.args.used c.requires.0 c.args.object_ids.now c.args.hypothesis_ids.now c.args.pairs.now)
