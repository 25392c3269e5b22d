-- Sums over lifecycles, and tallies that are no longer than a log. Assumes nothing.
use mathlib.Core.Path.{◌≡◌, refl, sym, ap, ◌∙◌}
use mathlib.Core.Bool.{Bool, true, false, ◌&&◌, true≢false}
use mathlib.Core.List.{List}
use Rattle.std.specs.Prelude.{Option, None, Some}
use Prim.Native.Nat.{ℕ, ◌+◌, ◌<◌, ◌≤◌}
use native.Mathlib.Omega.{arith}
use native.Mathlib.Numerals.{add-one}
use borrow.Author.Tests.{leb-true, le-leb, lt-leb}
use lib.Dec.{leb}
use lib.IntN.{ℤ, pos, negsuc, nat_abs}
use lib.ListN.{get_or}
use mir.Syntax.{w32}
use mir.Val.{SFits}
use Rattle.events.specs.declared.Tally.{Tally}
use Rattle.scores.specs.Scores.{Few}
use Rattle.slots.specs.declared.Slot.{Slot}
use Rattle.slots.specs.Slots.{no_slot}
use Rattle.summary.specs.declared.Covered.{Covered}
use Rattle.summary.specs.Coverage.{added_of, covered_of, Below}
use Rattle.rows.specs.declared.ExtendedMOTAccumulator.{ExtendedMOTAccumulator}
use Rattle.summary.specs.Totals.{totals_of, few_of, scores_for, scores_of}

pub size_few : (z : ℤ) → SFits w32 z → nat_abs z ≤ 2147483648
size_few (pos n) h = let l : n < 2147483648 = h.sfits in omega arith
size_few (negsuc n) h = let l : n < 2147483648 = h.sfits in omega arith

pub covered_none : (slots : List Slot) → (record { tracked = 0; detected = 0 } ≡ covered_of slots 0) × Below (record { tracked = 0; detected = 0 }) 0
unfolding covered_of
covered_none slots = (refl, record { tracked = omega arith; detected = omega arith })

pub covered_more : (slots : List Slot) (k : ℕ) (c r : Covered) → c ≡ covered_of slots k → r ≡ added_of c (get_or slots k no_slot).lifecycle → r ≡ covered_of slots (k + 1)
covered_more slots k c r e q =
    q ∙ (ap (λ (x : Covered). added_of x (get_or slots k no_slot).lifecycle) e ∙ sym (ap (covered_of slots) (add-one k) ∙ (unfold covered_of in refl)))

both : (a b : Bool) → (a && b) ≡ true → (a ≡ true) × (b ≡ true)
both true b h = (refl, h)
both false b h = absurd (true≢false (sym h))

pub too_many : (t : Tally) → 1024 < t.matches + t.switches + t.misses + t.false_positives → false ≡ few_of t
unfolding few_of
too_many t h = rw (lt-leb _ _ h)

pub by_truths : (t : Tally) → t.matches + t.switches + t.misses + t.false_positives ≤ 1024 → leb t.truths 1024 ≡ few_of t
unfolding few_of
by_truths t h = rw (le-leb _ _ h)

pub few_then : (t : Tally) → few_of t ≡ true → Few t
unfolding few_of
few_then t e =
    let b = both (leb (t.matches + t.switches + t.misses + t.false_positives) 1024) _ e in
    record { cases = leb-true _ _ b.0; truths = leb-true _ _ b.1 }

-- what scores a tally has, by whether it is no longer than a log
module _ (s : ExtendedMOTAccumulator) {t : Tally} {few : Bool} (e : t ≡ totals_of s) (q : few ≡ few_of t) where
  pub scores_known : few ≡ true → Some (scores_for t) ≡ scores_of s
  scores_known k =
      let f : few_of (totals_of s) ≡ true = sym (ap few_of e) ∙ (sym q ∙ k) in
      rw f (ap (λ (x : Tally). Some (scores_for x)) e)

  pub scores_unknown : few ≡ false → None ≡ scores_of s
  scores_unknown k =
      let f : few_of (totals_of s) ≡ false = sym (ap few_of e) ∙ (sym q ∙ k) in
      rw f
