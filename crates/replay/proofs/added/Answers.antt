-- `replay::added` meets its contract. Assumes nothing.
use Prim.Native.Nat.{◌-◌}
use lib.IntN.{nat_abs}
use mir.Syntax.{w32}
use mir.Val.{to_z, of_z}
use Rattle.counts.proofs.Ids.{told}
use Rattle.replay.specs.Replay.{row_of}
use Rattle.replay.proofs.added.Goals as goal

pub returns : goal.returns
unfolding row_of
returns c =
    let x0 = told (λ z. nat_abs z - nat_abs (to_z w32 (of_z w32 c.args.before.num_matches))) c.args.after.num_matches c.struct_told-1.given.1.1.1.0.1 c.gap.ensures in
    let y0 = told (λ z. nat_abs c.args.after.num_matches - nat_abs z) c.args.before.num_matches c.struct_told-2-1.given.1.1.1.0.1 x0 in
    let x1 = told (λ z. nat_abs z - nat_abs (to_z w32 (of_z w32 c.args.before.num_misses))) c.args.after.num_misses c.struct_told-3-1.given.1.1.1.1.0.1 c.gap-2.ensures in
    let y1 = told (λ z. nat_abs c.args.after.num_misses - nat_abs z) c.args.before.num_misses c.struct_told-4-1.given.1.1.1.1.0.1 x1 in
    let x2 = told (λ z. nat_abs z - nat_abs (to_z w32 (of_z w32 c.args.before.num_false_positives))) c.args.after.num_false_positives c.struct_told-5-1.given.1.1.1.1.1.0.1 c.gap-3.ensures in
    let y2 = told (λ z. nat_abs c.args.after.num_false_positives - nat_abs z) c.args.before.num_false_positives c.struct_told-6-1.given.1.1.1.1.1.0.1 x2 in
    let x3 = told (λ z. nat_abs z - nat_abs (to_z w32 (of_z w32 c.args.before.num_switches))) c.args.after.num_switches c.struct_told-7-1.given.1.1.1.1.1.1.0.1 c.gap-4.ensures in
    let y3 = told (λ z. nat_abs c.args.after.num_switches - nat_abs z) c.args.before.num_switches c.struct_told-8-1.given.1.1.1.1.1.1.0.1 x3 in
    rw (y0, y1, y2, y3)
