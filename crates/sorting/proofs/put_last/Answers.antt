-- `sorting::put_last` meets its contract.
use Rattle.std.proofs.Common.{◌≡◌, refl, ◌∙◌, ◌≤◌, ◌+◌, ◌-◌, suc, length, get_or, take, arith}
use lib.Seq.{length-take-le}
use Rattle.sorting.proofs.Insertion.{stands, slides, place_is, place_inside, last_put}
use Rattle.sorting.proofs.put_last.Goals as goal

pub loop-i-init : goal.loop-i-init
loop-i-init c =
    let run = c.args.run.now in
    let e = place_is c.args.keys.now run c.unwrap_or-p.result c.requires (c.unwrap_or-p.ensures ∙ rw (c.first_above.ensures, c.key_at-x.ensures) refl) in
    (place_inside c.args.keys.now run c.unwrap_or-p.result c.requires e, stands (length run - 1) run (omega arith))

pub loop-i-preserved : goal.loop-i-preserved
loop-i-preserved c =
    let run = c.args.run.now in
    let up : (c.loop-i.i - 1) + 1 ≡ c.loop-i.i = omega arith in
    let one : c.loop-i.i ≡ suc (c.loop-i.i - 1) = omega arith in
    let inside : c.loop-i.i ≤ length (take (length run - 1) run) = omega (arith, length-take-le (length run - 1) run (omega arith)) in
    (omega arith, rw up (slides c.loop-i.i (c.loop-i.i - 1) (get_or run (length run - 1) 0) (take (length run - 1) run) c.loop-i.run one inside c.loop-i.invariant.1 (omega arith)))

pub returns : goal.returns
returns c =
    let run = c.args.run.now in
    let at : c.loop-i.i ≡ c.unwrap_or-p.result = omega (arith, c.loop-i.invariant.0) in
    last_put c.args.keys.now run _ c.unwrap_or-p.result
    (place_is c.args.keys.now run c.unwrap_or-p.result c.requires (c.unwrap_or-p.ensures ∙ rw (c.first_above.ensures, c.key_at-x.ensures) refl))
    (rw at at c.loop-i.invariant.1)
