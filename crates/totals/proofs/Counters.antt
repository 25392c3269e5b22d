-- The six counters of a frame, each by itself. Assumes nothing.
use mathlib.Core.Path.{◌≡◌, ◌∙◌}
use mathlib.Core.Bool.{Bool, true, ◌&&◌}
use lib.Signed.{non_neg}
use Rattle.counts.specs.Counts.{room_for}
use Rattle.counts.proofs.Tests.{both, all_three}
use Rattle.rows.specs.declared.ExtendedMOTAccumulator.{ExtendedMOTAccumulator}
use Rattle.totals.specs.declared.Shares.{Shares}
use Rattle.totals.specs.Totals.{totals_sound, room_for_all}

module _ (t : ExtendedMOTAccumulator) (by : Shares) where
  abbrev frames : Bool
  frames = room_for t.frame_id 1

  abbrev matches : Bool
  matches = room_for t.num_matches by.matches

  abbrev misses : Bool
  misses = room_for t.num_misses by.misses

  abbrev extras : Bool
  extras = room_for t.num_false_positives by.false_positives

  abbrev switched : Bool
  switched = room_for t.num_switches by.switches

  abbrev objects : Bool
  objects = room_for t.num_objects by.objects

  pub room_is : (a b c d e f x y r : Bool) → a ≡ frames → b ≡ matches → c ≡ misses → d ≡ extras → e ≡ switched → f ≡ objects
      → x ≡ (a && (b && c)) → y ≡ (d && (e && f)) → r ≡ (x && y) → r ≡ room_for_all t by
  unfolding room_for_all
  room_is a b c d e f x y r pa pb pc pd pe pf px py pr =
      pr ∙ (λ i. px i && py i) ∙ (λ i. (pa i && (pb i && pc i)) && (pd i && (pe i && pf i)))

  pub rooms : room_for_all t by ≡ true → ((frames ≡ true) × (matches ≡ true) × (misses ≡ true)) × ((extras ≡ true) × (switched ≡ true) × (objects ≡ true))
  unfolding room_for_all
  rooms h =
      let p = both (frames && (matches && misses)) (extras && (switched && objects)) h in
      (all_three frames matches misses p.0, all_three extras switched objects p.1)

-- ---- refusal 1 for the counters
pub signs_are : (t : ExtendedMOTAccumulator) (a b c d e f x y r : Bool) → a ≡ non_neg t.frame_id → b ≡ non_neg t.num_matches → c ≡ non_neg t.num_misses
    → d ≡ non_neg t.num_false_positives → e ≡ non_neg t.num_switches → f ≡ non_neg t.num_objects
    → x ≡ (a && (b && c)) → y ≡ (d && (e && f)) → r ≡ (x && y) → r ≡ totals_sound t
unfolding totals_sound
signs_are t a b c d e f x y r pa pb pc pd pe pf px py pr =
    pr ∙ (λ i. px i && py i) ∙ (λ i. (pa i && (pb i && pc i)) && (pd i && (pe i && pf i)))
