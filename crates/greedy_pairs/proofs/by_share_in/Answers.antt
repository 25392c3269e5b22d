-- `greedy_pairs::by_share_in` meets its contract. What the sort is handed is the negated IoUs, and what is handed back 1.0 less each.
use Rattle.std.proofs.Common.{ap, subst, sym, ◌∙◌, map, take, rules}
use lib.Ieee.{binary64, neg, add, le, of_bits}
use Rattle.floats.specs.Float.{one64}
use Rattle.sorting.specs.Order.{Numbers}
use Rattle.sorting.specs.Sort.{sort_of}
use Rattle.sorting.proofs.Falls.{neg_numbers}
use Rattle.greedy.specs.Greedy.{pairing_of}
use Rattle.greedy_pairs.specs.Pairs.{by_share}
use Rattle.greedy_pairs.proofs.Listing.{share_number}
use Rattle.greedy_pairs.proofs.InPlace.{less_each}
use Rattle.greedy_pairs.proofs.Frames as law
use Rattle.greedy_pairs.proofs.by_share_in.Goals as goal

pub pair_listed-p-requires : goal.pair_listed-p-requires
pair_listed-p-requires g c =
    let i = c.args.shares.now in
    let t = c.args.threshold in
    let m = c.requires.matrix in
    let a = c.list_passing-used.new.order in
    let u = c.list_passing-used.result in
    let l = c.list_passing-used.ensures.listed (le t) (λ x r p. search rules) in
    let e = c.change_each.ensures neg (λ x r p. search rules) in (
      m.0,
      m.1,
      law.listed_few (le t) i c.args.n c.args.w m.0 m.1 m.2 a u l.0 l.1,
      subst (λ keys. Numbers keys (take u a)) (sym e) (neg_numbers i (take u a) (law.listed_numbers (le t) i c.args.n c.args.w m.0 m.1 m.2 a u l.0 l.1 (share_number t))),
      law.listed_inside (le t) i c.args.n c.args.w m.0 m.1 m.2 a u l.0 l.1,
    )

pub returns : goal.returns
unfolding by_share of_bits
returns g c =
    let l = c.list_passing-used.ensures.listed (le c.args.threshold) (λ x r p. search rules) in
    let e = c.change_each.ensures neg (λ x r p. search rules) in
    let f = c.change_each-2.ensures (add binary64 one64) (λ x r p. search rules) in (
      c.pair_listed-p.ensures
          ∙ ap (λ keys. pairing_of c.args.w (sort_of keys (take c.list_passing-used.result c.list_passing-used.new.order))) e
          ∙ ap (λ l. pairing_of c.args.w (sort_of (map neg c.args.shares.now) l)) l.1,
      f ∙ ap (map (add binary64 one64)) e ∙ less_each c.args.shares.now,
    )
