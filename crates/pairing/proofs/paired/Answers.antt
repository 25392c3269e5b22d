-- `pairing::paired` meets its contract. Assumes nothing.
use Rattle.pairing.proofs.Placed.{few, in_matrix, made}
use Rattle.pairing.proofs.paired.Goals as goal

pub sum_distances-distance-requires : goal.sum_distances-distance-requires
sum_distances-distance-requires c =
    let p = c.requires in
    let i = c.indices.ensures in
    (few c.args.m.now c.args.h c.args.w c.args.max_cost c.solve-found.result c.solve-found.ensures p.0 p.1 p.2 p.3, in_matrix c.args.m.now c.args.h c.args.w c.args.max_cost c.solve-found.result c.solve-found.ensures p.0 p.1 p.2 p.3 _ _ i.0 i.1)

pub returns : goal.returns
returns c =
    let p = c.requires in
    let i = c.indices.ensures in
    made c.args.m.now c.args.h c.args.w c.args.max_cost c.solve-found.result c.solve-found.ensures p.0 p.1 p.2 p.3 _ _ i.0 i.1 c.args.total c.sum_distances-distance.result c.sum_distances-distance.ensures
