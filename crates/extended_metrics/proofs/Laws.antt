-- A sound state's lifecycles, one by one, and a tally of them. Assumes nothing.
use mathlib.Core.Path.{◌≡◌, refl, sym, ap, ◌∙◌, subst}
use mathlib.Core.Bool.{Bool, true, false, ◌&&◌, true≢false}
use mathlib.Core.List.{List}
use Prim.Native.Nat.{ℕ, ◌+◌, ◌<◌, ◌≤◌}
use native.Mathlib.Omega.{arith}
use native.Mathlib.Numerals.{add-one}
use borrow.Author.Tests.{leb-true, le-leb, lt-leb}
use lib.IntN.{ℤ, pos, negsuc, nat_abs}
use lib.Signed.{non_neg}
use lib.ListN.{length, get_or, take}
use lib.Seq.{get_or-take, length-take-le}
use mir.Syntax.{w32}
use mir.Val.{SFits, to_z}
use mir.Facts.{to_z-of_z}
use Rattle.counts.specs.Counts.{fits}
use Rattle.lifecycle.specs.declared.TrackLifecycle.{TrackLifecycle}
use Rattle.lifecycle_parts.specs.declared.Class.{Class}
use Rattle.lifecycle_parts.specs.declared.Class.TheVariants.{MostlyTracked, PartiallyTracked, MostlyLost}
use Rattle.lifecycle.specs.Lifecycle.{sound_counts, shared_of, class_of}
use Rattle.slots.specs.declared.Slot.{Slot}
use Rattle.slots.specs.Slots.{no_slot, counts_sound, sound_of}
use Rattle.slots.proofs.Faults.{counts_read}
use Rattle.rows.specs.declared.ExtendedMOTAccumulator.{ExtendedMOTAccumulator}
use Rattle.frame.specs.Frame.{sound_state, totals_sound}
use Rattle.extended_metrics.specs.declared.Tally.{Tally}
use Rattle.extended_metrics.specs.Metrics.{class_tally, plus, lone_of, added_of, tally_at, tally_of, metrics_at, refused_at, summed_of}
use Rattle.extended_metrics.specs.Bounds.{Below}

both : (a b : Bool) → (a && b) ≡ true → (a ≡ true) × (b ≡ true)
both true b h = (refl, h)
both false b h = absurd (true≢false (sym h))

-- ---- a count that is not negative
-- so that the sum of sizes is the sum of the counts
pub size_is : (z : ℤ) → non_neg z ≡ true → pos (nat_abs z) ≡ z
size_is (pos n) t = refl
size_is (negsuc n) t = absurd (true≢false (sym t))

-- ---- a sound table's lifecycles
sound_fragments : (t : TrackLifecycle) → sound_counts t ≡ true → non_neg t.fragmentations ≡ true
unfolding sound_counts
sound_fragments t e = (both (non_neg t.detected_frames) _ (both (non_neg t.tracked_frames) _ e).1).1

pub fragments_sound : (slots : List Slot) (used i : ℕ) → used ≤ length slots → i < used → counts_sound (take used slots) ≡ true
    → non_neg (get_or slots i no_slot).lifecycle.fragmentations ≡ true
fragments_sound slots used i l h e =
    let n = length-take-le used slots l in
    subst (λ (s : Slot). non_neg s.lifecycle.fragmentations ≡ true) (get_or-take used slots i no_slot h)
    (sound_fragments _ (counts_read (take used slots) e i (omega arith)))

table_sound : (slots : List Slot) (used : ℕ) → sound_of slots used ≡ true → (used ≤ 256) × (counts_sound (take used slots) ≡ true)
unfolding sound_of
table_sound slots used e = let b = both _ _ e in (leb-true used 256 b.0, (both (counts_sound (take used slots)) _ b.1).0)

pub state_sound : (s : ExtendedMOTAccumulator) → sound_state s ≡ true → (s.used ≤ 256) × (counts_sound (take s.used s.slots) ≡ true)
unfolding sound_state
state_sound s e = table_sound s.slots s.used (both (totals_sound s) _ e).1

-- ---- one lifecycle more
one : (c : Class) → ((class_tally c).tracked ≤ 1) × ((class_tally c).partially ≤ 1) × ((class_tally c).lost ≤ 1)
unfolding class_tally
one MostlyTracked = (omega arith, omega arith, omega arith)
one PartiallyTracked = (omega arith, omega arith, omega arith)
one MostlyLost = (omega arith, omega arith, omega arith)

pub class_few : (t : Tally) (c : Class) → t ≡ class_tally c → (t.tracked ≤ 1) × (t.partially ≤ 1) × (t.lost ≤ 1)
class_few t c e = subst (λ (x : Tally). (x.tracked ≤ 1) × (x.partially ≤ 1) × (x.lost ≤ 1)) (sym e) (one c)

pub plus_below : (t one : Tally) (k : ℕ) → Below t k → Below one 1 → Below (plus t one one.fragmentations) (k + 1)
plus_below t one k b o =
    let a₁ = b.tracked in let a₂ = b.partially in let a₃ = b.lost in let a₄ = b.fragmentations in
    let o₁ = o.tracked in let o₂ = o.partially in let o₃ = o.lost in let o₄ = o.fragmentations in
    record { tracked = omega arith; partially = omega arith; lost = omega arith; fragmentations = omega arith }

pub none_below : Below (tally_at 0 0 0 0) 0
none_below = record { tracked = omega arith; partially = omega arith; lost = omega arith; fragmentations = omega arith }

pub tally_none : (slots : List Slot) → tally_at 0 0 0 0 ≡ tally_of slots 0
unfolding tally_of
tally_none slots = refl

pub tally_more : (slots : List Slot) (k : ℕ) (t r : Tally) → t ≡ tally_of slots k → r ≡ added_of t (get_or slots k no_slot).lifecycle → r ≡ tally_of slots (k + 1)
tally_more slots k t r e q =
    q ∙ (ap (λ (x : Tally). added_of x (get_or slots k no_slot).lifecycle) e ∙ sym (ap (tally_of slots) (add-one k) ∙ (unfold tally_of in refl)))

pub lone_is : (c : Tally) (more : ℕ) (it : TrackLifecycle) → c ≡ class_tally (class_of (shared_of it)) → more ≡ nat_abs it.fragmentations
    → tally_at c.tracked c.partially c.lost more ≡ lone_of it
lone_is c more it e q = λ i. tally_at (e i).tracked (e i).partially (e i).lost (q i)

pub plus_is : (t one : Tally) (it : TrackLifecycle) → one ≡ lone_of it → plus t one one.fragmentations ≡ added_of t it
unfolding added_of
plus_is t one it e = ap (λ (o : Tally). plus t o o.fragmentations) e

-- ---- the answer
pos_fits : (n : ℕ) → n < 2147483648 → SFits w32 (pos n)
pos_fits n h = record { sfits = h }

as_pos : (n : ℕ) → n < 2147483648 → to_z w32 n ≡ pos n
as_pos n h = to_z-of_z (pos_fits n h)

pub passed : (t : Tally) → 2147483647 < t.fragmentations → refused_at 7 ≡ summed_of t
unfolding summed_of fits
passed t h = sym (rw (lt-leb t.fragmentations 2147483647 h))

pub answered : (t : Tally) → t.fragmentations ≤ 2147483647 → Below t 256
    → metrics_at 0 (to_z w32 t.tracked) (to_z w32 t.lost) (to_z w32 t.partially) (to_z w32 t.fragmentations) ≡ summed_of t
unfolding summed_of fits
answered t h b =
    let p = b.tracked in
    let q = b.lost in
    let r = b.partially in
    rw (le-leb t.fragmentations 2147483647 h) (λ i. metrics_at 0 (as_pos t.tracked (omega arith) i) (as_pos t.lost (omega arith) i) (as_pos t.partially (omega arith) i) (as_pos t.fragmentations (omega arith) i))

pub below_more : (t : Tally) (k : ℕ) → Below t k → k ≤ 256 → Below t 256
below_more t k b h =
    let p = b.tracked in let q = b.lost in let r = b.partially in let f = b.fragmentations in
    record { tracked = omega arith; partially = omega arith; lost = omega arith; fragmentations = omega arith }
