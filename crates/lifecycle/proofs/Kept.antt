-- What an update keeps: the id, sound counts, and tracked at most detected where it was so. Assumes nothing.
use mathlib.Core.Path.{◌≡◌, refl, ap}
use mathlib.Core.Bool.{Bool, true, ◌&&◌}
use Prim.Native.Nat.{◌+◌}
use native.Mathlib.Omega.{arith}
use lib.IntN.{ℤ, pos, ◌+ℤ◌}
use lib.Signed.{non_neg}
use Rattle.counts.specs.Counts.{one_if}
use Rattle.counts.proofs.Sums.{stays_above}
use Rattle.counts.proofs.Tests.{all_three}
use Rattle.lifecycle.specs.declared.TrackLifecycle.{TrackLifecycle}
use Rattle.lifecycle.specs.Lifecycle.{fresh, fragments, sound_counts, matched_after, missed_after}
use Rattle.lifecycle.specs.Tracked.{Within}

module _ (t : TrackLifecycle) (f : ℤ) where
  pub match_id : (matched_after t f).gt_id ≡ t.gt_id
  unfolding matched_after
  match_id = refl

  pub miss_id : (missed_after t f).gt_id ≡ t.gt_id
  unfolding missed_after
  miss_id = refl

  together : (a b c : Bool) → a ≡ true → b ≡ true → c ≡ true → (a && (b && c)) ≡ true
  together a b c p q r = rw (p, q, r)

  pub match_sound : sound_counts t ≡ true → sound_counts (matched_after t f) ≡ true
  unfolding sound_counts matched_after
  match_sound e =
      let h = all_three (non_neg t.tracked_frames) (non_neg t.detected_frames) (non_neg t.fragmentations) e in
      let more = one_if (fragments (t.detected_frames +ℤ pos 1) t.was_matched) in
      together (non_neg (t.tracked_frames +ℤ pos 1)) (non_neg (t.detected_frames +ℤ pos 1)) (non_neg (t.fragmentations +ℤ pos more))
      (stays_above t.tracked_frames 1 h.0) (stays_above t.detected_frames 1 h.1) (stays_above t.fragmentations more h.2)

  pub miss_sound : sound_counts t ≡ true → sound_counts (missed_after t f) ≡ true
  unfolding sound_counts missed_after
  miss_sound e =
      let h = all_three (non_neg t.tracked_frames) (non_neg t.detected_frames) (non_neg t.fragmentations) e in
      together (non_neg t.tracked_frames) (non_neg (t.detected_frames +ℤ pos 1)) (non_neg t.fragmentations) h.0
      (stays_above t.detected_frames 1 h.1) h.2

pub fresh_sound : (id f : ℤ) → sound_counts (fresh id f) ≡ true
unfolding sound_counts
fresh_sound id f = refl

-- ---- tracked in no more frames than it was there
pub fresh_within : (id f : ℤ) → Within (fresh id f)
fresh_within id f = record { tracked = 0; detected = 0; tracked_is = refl; detected_is = refl; no_more = omega arith }

pub match_within : (t : TrackLifecycle) (f : ℤ) → Within t → Within (matched_after t f)
unfolding matched_after
match_within t f w =
    record {
      tracked = w.tracked + 1;
      detected = w.detected + 1;
      tracked_is = ap (λ (z : ℤ). z +ℤ pos 1) w.tracked_is;
      detected_is = ap (λ (z : ℤ). z +ℤ pos 1) w.detected_is;
      no_more = (let h = w.no_more in omega arith);
    }

pub miss_within : (t : TrackLifecycle) (f : ℤ) → Within t → Within (missed_after t f)
unfolding missed_after
miss_within t f w =
    record {
      tracked = w.tracked;
      detected = w.detected + 1;
      tracked_is = w.tracked_is;
      detected_is = ap (λ (z : ℤ). z +ℤ pos 1) w.detected_is;
      no_more = (let h = w.no_more in omega arith);
    }
