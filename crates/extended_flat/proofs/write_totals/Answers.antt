-- `extended_flat::write_totals` meets its contract. Assumes nothing.
use mathlib.Core.Path.{◌∙◌}
use mathlib.Core.List.{[], ◌∷◌}
use Rattle.counts.proofs.Sums.{small}
use native.Mathlib.Omega.{arith}
use Rattle.counts.proofs.Ids.{back}
use Rattle.sizes.proofs.Laws.{whole_written}
use Rattle.extended_flat.proofs.write_totals.Goals as goal

pub returns : goal.returns
returns c =
    let t = c.args.t in
    let g = c.struct_told-1.given in
    let h = c.requires.2 in (
      c.copy_from_slice.ensures.after
          ∙ (λ i. small t.used (omega arith) i
          ∷ back t.frame_id g.1.0.1 i
          ∷ back t.num_matches g.1.1.0.1 i
          ∷ back t.num_misses g.1.1.1.0.1 i
          ∷ back t.num_false_positives g.1.1.1.1.0.1 i
          ∷ back t.num_switches g.1.1.1.1.1.0.1 i
          ∷ back t.num_objects g.1.1.1.1.1.1.0.1 i
          ∷ []),
      whole_written c.args.distance.now (t.total_distance ∷ []) c.requires.1,
    )
