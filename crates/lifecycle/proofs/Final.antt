-- Refusal 7 is settled on final values: there is room for an update exactly where every count fits after it, and a
-- count that has passed stays past. Assumes nothing.
use mathlib.Core.Path.{◌≡◌, refl, sym}
use mathlib.Core.Bool.{Bool, true, false, ◌&&◌, true≢false}
use lib.IntN.{ℤ, pos, ◌+ℤ◌}
use Rattle.counts.specs.Counts.{fits, room_for, one_if}
use Rattle.counts.proofs.Sums.{stays_past}
use Rattle.counts.proofs.Tests.{all_three}
use Rattle.lifecycle.specs.declared.TrackLifecycle.{TrackLifecycle}
use Rattle.lifecycle.specs.Lifecycle.{fragments, room_to_match, room_to_miss, matched_after, missed_after, counts_fit}

pub match_final : (t : TrackLifecycle) (f : ℤ) → room_to_match t ≡ counts_fit (matched_after t f)
unfolding room_to_match counts_fit matched_after
match_final t f = refl

middle : (a b c : Bool) → a ≡ true → c ≡ true → b ≡ (a && (b && c))
middle true true true p q = refl
middle true false true p q = refl
middle false b c p q = absurd (true≢false (sym p))
middle true b false p q = absurd (true≢false (sym q))

-- a miss raises one count alone, so the other two have to fit before
pub miss_final : (t : TrackLifecycle) (f : ℤ) → counts_fit t ≡ true → room_to_miss t ≡ counts_fit (missed_after t f)
unfolding room_to_miss counts_fit missed_after
miss_final t f e =
    let h = all_three (fits t.tracked_frames) (fits t.detected_frames) (fits t.fragmentations) e in
    middle (fits t.tracked_frames) (room_for t.detected_frames 1) (fits t.fragmentations) h.0 h.2

-- ---- a lifecycle with a count that has passed keeps one
past : (a b c x y z : Bool) → (a ≡ false → x ≡ false) → (b ≡ false → y ≡ false) → (c ≡ false → z ≡ false) → (a && (b && c)) ≡ false
    → (x && (y && z)) ≡ false
past a b c false y z p q r e = refl
past a b c true false z p q r e = refl
past a b c true true false p q r e = refl
past false b c true true true p q r e = absurd (true≢false (p refl))
past true false c true true true p q r e = absurd (true≢false (q refl))
past true true false true true true p q r e = absurd (true≢false (r refl))
past true true true true true true p q r e = absurd (true≢false e)

pub match_past : (t : TrackLifecycle) (f : ℤ) → counts_fit t ≡ false → counts_fit (matched_after t f) ≡ false
unfolding counts_fit matched_after
match_past t f e =
    let more = one_if (fragments (t.detected_frames +ℤ pos 1) t.was_matched) in
    past (fits t.tracked_frames) (fits t.detected_frames) (fits t.fragmentations) (room_for t.tracked_frames 1)
    (room_for t.detected_frames 1) (room_for t.fragmentations more) (stays_past t.tracked_frames 1)
    (stays_past t.detected_frames 1) (stays_past t.fragmentations more) e

pub miss_past : (t : TrackLifecycle) (f : ℤ) → counts_fit t ≡ false → counts_fit (missed_after t f) ≡ false
unfolding counts_fit missed_after
miss_past t f e =
    past (fits t.tracked_frames) (fits t.detected_frames) (fits t.fragmentations) (fits t.tracked_frames)
    (room_for t.detected_frames 1) (fits t.fragmentations) (λ h. h) (stays_past t.detected_frames 1) (λ h. h) e
