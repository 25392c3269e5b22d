-- `extended_metrics::tallied` meets its contract. After i turns the first i slots are counted. Assumes nothing.
use mathlib.Core.Path.{◌≡◌, ap, sym, subst, ◌∙◌}
use mathlib.Core.Bool.{true}
use Prim.Native.Nat.{ℕ, ◌<◌, ◌≤◌, ◌+◌}
use native.Mathlib.Omega.{arith}
use borrow.Author.Rules.{rules}
use lib.Signed.{non_neg}
use lib.ListN.{length}
use lib.Seq.{get_or-take, length-take-le}
use Rattle.slots.specs.declared.Slot.{Slot}
use Rattle.extended_metrics.specs.declared.Tally.{Tally}
use Rattle.slots.specs.Slots.{no_slot}
use Rattle.extended_metrics.specs.Metrics.{tally_at, lone_of}
use Rattle.extended_metrics.specs.Bounds.{Below}
use Rattle.extended_metrics.proofs.Laws as laws
use Rattle.extended_metrics.proofs.tallied.Goals as goal

pub loop-slot-init : goal.loop-slot-init
loop-slot-init c =
    let d = c.default-t.ensures in
    let e : c.default-t.result ≡ tally_at 0 0 0 0 = λ i. tally_at (d.0 i) (d.1.0 i) (d.1.1.0 i) (d.1.1.1 i) in
    (e ∙ laws.tally_none _, subst (λ (x : Tally). Below x 0) (sym e) laws.none_below)

pub tally_of_one-one-requires : goal.tally_of_one-one-requires
tally_of_one-one-requires c =
    let k = c.loop-slot.slot-index in
    let n : length c.args.slots.now ≡ 256 = search rules in
    let l = c.requires.0 in
    let u : c.args.used ≤ length c.args.slots.now = omega arith in
    let t = length-take-le c.args.used c.args.slots.now u in
    let h : k < c.args.used = omega arith in
    let at = get_or-take c.args.used c.args.slots.now k no_slot h in
    subst (λ (s : Slot). non_neg s.lifecycle.fragmentations ≡ true) (sym at) (laws.fragments_sound c.args.slots.now c.args.used k u h c.requires.1)

pub loop-slot-preserved : goal.loop-slot-preserved
loop-slot-preserved c =
    let k = c.loop-slot.slot-index in
    let n : length c.args.slots.now ≡ 256 = search rules in
    let l = c.requires.0 in
    let u : c.args.used ≤ length c.args.slots.now = omega arith in
    let t = length-take-le c.args.used c.args.slots.now u in
    let h : k < c.args.used = omega arith in
    let at = get_or-take c.args.used c.args.slots.now k no_slot h in
    let one = c.tally_of_one-one.result in
    let w = c.loop-slot.invariant in (
      laws.tally_more c.args.slots.now k c.loop-slot.t _ w.0
          (laws.plus_is c.loop-slot.t one _ (c.tally_of_one-one.ensures.0 ∙ ap (λ (s : Slot). lone_of s.lifecycle) at)),
      laws.plus_below c.loop-slot.t one k w.1 c.tally_of_one-one.ensures.1,
    )
