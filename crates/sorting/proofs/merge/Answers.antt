-- `sorting::merge` meets its contract. What stands in out, and what is still to come of the two runs, is the definition's. Assumes nothing.
use Rattle.std.proofs.Common.{◌≡◌, sym, ◌∙◌, Bool, List, ℕ, ◌+◌, ◌<◌, ◌-◌, take, drop}
use lib.Ieee.{Float}
use Rattle.sorting.specs.Steps.{first_next}
use native.Mathlib.Omega.{arith}
use lib.ListN.{length}
use Rattle.sorting.proofs.MergeTurns.{tail_part, first_index, second_index, takes_first, takes_second, all_merged}
use Rattle.sorting.proofs.merge.Goals as goal
use Rattle.sorting.proofs.merge.Goals.{Else-from_first, Then-from_first, else-from_first, then-from_first}

-- the code's test, by what is still to come of the two runs
told : (keys : List Float) (a b : List ℕ) (i j : ℕ) (t : Bool) → t ≡ first_next keys (take (length a - i) (drop i a)) (take (length b - j) (drop j b)) → first_next keys (drop i a) (drop j b) ≡ t
told keys a b i j t e = rw (tail_part i a, tail_part j b) at (sym e)

in_first : (c : Then-from_first) → c.loop-k.i < length c.args.a.now
in_first c =
    first_index c.args.keys.now c.args.a.now c.args.b.now c.args.out.now c.loop-k.out c.loop-k.i c.loop-k.j c.loop-k.k c.loop-k.invariant (told c.args.keys.now c.args.a.now c.args.b.now c.loop-k.i c.loop-k.j _ c.from_first.ensures ∙ c.if-from_first.true)

in_second : (c : Else-from_first) → c.loop-k.j < length c.args.b.now
in_second c =
    second_index c.args.keys.now c.args.a.now c.args.b.now c.args.out.now c.loop-k.out c.loop-k.i c.loop-k.j c.loop-k.k c.loop-k.invariant (told c.args.keys.now c.args.a.now c.args.b.now c.loop-k.i c.loop-k.j _ c.from_first.ensures ∙ c.if-from_first.false) (omega arith)

pub bounds-a-i : goal.bounds-a-i
bounds-a-i c = in_first (goal.at.bounds-a-i c).Then-from_first

pub bounds-b-j : goal.bounds-b-j
bounds-b-j c = in_second (goal.at.bounds-b-j c).Else-from_first

pub loop-k-preserved : goal.loop-k-preserved
loop-k-preserved c =
    let h : c.loop-k.k < length c.args.a.now + length c.args.b.now = omega arith in
    elim c.if-from_first.branch [ then-from_first v ↦ takes_first c.args.keys.now c.args.a.now c.args.b.now c.args.out.now c.loop-k.out c.loop-k.i c.loop-k.j c.loop-k.k c.loop-k.invariant c.if-from_first.out c.if-from_first.i c.if-from_first.j (told c.args.keys.now c.args.a.now c.args.b.now c.loop-k.i c.loop-k.j _ c.from_first.ensures ∙ v.if-from_first.true) v.out-is v.i-is v.j-is | else-from_first v ↦ takes_second c.args.keys.now c.args.a.now c.args.b.now c.args.out.now c.loop-k.out c.loop-k.i c.loop-k.j c.loop-k.k c.loop-k.invariant c.if-from_first.out c.if-from_first.i c.if-from_first.j (told c.args.keys.now c.args.a.now c.args.b.now c.loop-k.i c.loop-k.j _ c.from_first.ensures ∙ v.if-from_first.false) h v.out-is v.i-is v.j-is ]

pub returns : goal.returns
returns c =
    let x = c.loop-k.invariant.0 in
    let y = c.loop-k.invariant.1 in
    let e : c.loop-k.k ≡ length c.args.a.now + length c.args.b.now = omega arith in
    all_merged c.args.keys.now c.args.a.now c.args.b.now c.args.out.now c.loop-k.out c.loop-k.i c.loop-k.j c.loop-k.k c.loop-k.invariant e
