-- `totals::raised_by` meets its contract. Assumes nothing.
use Rattle.std.proofs.Common.{rules}
use mathlib.Core.Path.{◌∙◌}
use lib.IntN.{ℤ, pos, ◌+ℤ◌}
use Rattle.counts.proofs.Ids.{Small, back, told}
use Rattle.totals.proofs.raised_by.Goals as goal

pub returns : goal.returns
returns c =
    let t = c.args.t in
    let by = c.args.by in
    let a : Small t.frame_id = search rules in
    let b : Small t.num_matches = search rules in
    let d : Small t.num_misses = search rules in
    let e : Small t.num_false_positives = search rules in
    let f : Small t.num_switches = search rules in
    let g : Small t.num_objects = search rules in
    λ i. record {
      used = t.used;
      frame_id = (back c.add.result c.add.type_inv ∙ told (λ (z : ℤ). z +ℤ pos 1) t.frame_id a c.add.ensures) i;
      num_matches = (back c.add-2.result c.add-2.type_inv ∙ told (λ (z : ℤ). z +ℤ pos by.matches) t.num_matches b c.add-2.ensures) i;
      num_misses = (back c.add-3.result c.add-3.type_inv ∙ told (λ (z : ℤ). z +ℤ pos by.misses) t.num_misses d c.add-3.ensures) i;
      num_false_positives = (back c.add-4.result c.add-4.type_inv ∙ told (λ (z : ℤ). z +ℤ pos by.false_positives) t.num_false_positives e c.add-4.ensures) i;
      num_switches = (back c.add-5.result c.add-5.type_inv ∙ told (λ (z : ℤ). z +ℤ pos by.switches) t.num_switches f c.add-5.ensures) i;
      num_objects = (back c.add-6.result c.add-6.type_inv ∙ told (λ (z : ℤ). z +ℤ pos by.objects) t.num_objects g c.add-6.ensures) i;
      total_distance = c.args.distance;
    }
