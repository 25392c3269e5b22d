-- `greedy_pairs::by_distance_in` meets its contract.
use Rattle.std.proofs.Common.{ap, ◌∙◌}
use Rattle.floats.specs.Float.{is_finite}
use Rattle.sorting.specs.Sort.{sort_of}
use Rattle.greedy.specs.Greedy.{pairing_of}
use Rattle.greedy_pairs.specs.Pairs.{by_distance}
use Rattle.greedy_pairs.proofs.Listing.{finite_number}
use Rattle.greedy_pairs.proofs.Frames as law
use Rattle.greedy_pairs.proofs.by_distance_in.Goals as goal

pub pair_listed-requires : goal.pair_listed-requires
pair_listed-requires g c =
    let d = c.args.distances.now in
    let m = c.requires.matrix in
    let a = c.list_passing-used.new.order in
    let u = c.list_passing-used.result in
    let l = c.list_passing-used.ensures.listed is_finite (λ x r p. p) in
    (m.0, m.1, law.listed_few is_finite d c.args.n c.args.w m.0 m.1 m.2 a u l.0 l.1, law.listed_numbers is_finite d c.args.n c.args.w m.0 m.1 m.2 a u l.0 l.1 finite_number, law.listed_inside is_finite d c.args.n c.args.w m.0 m.1 m.2 a u l.0 l.1)

pub returns : goal.returns
unfolding by_distance
returns g c =
    let l = c.list_passing-used.ensures.listed is_finite (λ x r p. p) in
    c.pair_listed.ensures ∙ ap (λ l. pairing_of c.args.w (sort_of c.args.distances.now l)) l.1
