-- Whether no count has passed, as slots are booked without a bound. Assumes nothing.
use Rattle.std.specs.Prelude.{Option, None, Some}
use mathlib.Core.Path.{◌≡◌, refl, ◌∙◌}
use mathlib.Core.Bool.{Bool, true, false, ◌&&◌, true≢false}
use mathlib.Core.List.{List, [], ◌∷◌, ◌++◌}
use Prim.Native.Nat.{ℕ, zero, suc, ◌<◌}
use native.Mathlib.Nat.{not-suc-le-zero, le_of_suc-le-suc}
use lib.IntN.{ℤ}
use lib.ListN.{length, get_or, set}
use Rattle.counts.specs.Counts.{fits}
use Rattle.counts.proofs.Tests.{both}
use Rattle.lifecycle.specs.Lifecycle.{counts_fit, matched_after, missed_after, fragments}
use Rattle.lifecycle.proofs.Final.{match_final, miss_final, match_past, miss_past}
use Rattle.lifecycle.proofs.Kept.{match_id, miss_id}
use Rattle.slots.specs.declared.Slot.{Slot}
use Rattle.slots.specs.Slots.{new_slot, no_slot, id_of, booked_slot, missed_slot, matched_slot}
use Rattle.frame.specs.Unbounded.{next_slot, switch_of, all_fit}

-- ---- one slot
pub next_id : (s : Slot) (to : Option ℤ) (f : ℤ) → id_of (next_slot s to f) ≡ id_of s
next_id s None f = miss_id s.lifecycle f
next_id s (Some to) f = match_id s.lifecycle f

pub next_past : (s : Slot) (to : Option ℤ) (f : ℤ) → counts_fit s.lifecycle ≡ false → counts_fit (next_slot s to f).lifecycle ≡ false
next_past s None f e = miss_past s.lifecycle f e
next_past s (Some to) f e = match_past s.lifecycle f e

-- booked within the bounds, a slot is the next one exactly where that one's counts fit
pub booked_fits : (s : Slot) (to : Option ℤ) (f : ℤ) → counts_fit s.lifecycle ≡ true → counts_fit (next_slot s to f).lifecycle ≡ true
    → booked_slot s to f ≡ record { slot = next_slot s to f; over = false; switched = switch_of s to }
unfolding missed_slot matched_slot
booked_fits s None f e g = rw (miss_final s.lifecycle f e ∙ g)
booked_fits s (Some to) f e g = rw (match_final s.lifecycle f ∙ g)

pub booked_past : (s : Slot) (to : Option ℤ) (f : ℤ) → counts_fit s.lifecycle ≡ true → counts_fit (next_slot s to f).lifecycle ≡ false
    → booked_slot s to f ≡ record { slot = s; over = true; switched = false }
unfolding missed_slot matched_slot
booked_past s None f e g = rw (miss_final s.lifecycle f e ∙ g)
booked_past s (Some to) f e g = rw (match_final s.lifecycle f ∙ g)

pub new_fits : (id f : ℤ) → counts_fit (new_slot id f).lifecycle ≡ true
unfolding counts_fit fits
new_fits id f = refl

pub new_next_fits : (id : ℤ) (to : Option ℤ) (f : ℤ) → counts_fit (next_slot (new_slot id f) to f).lifecycle ≡ true
unfolding counts_fit fits missed_after matched_after fragments
new_next_fits id None f = refl
new_next_fits id (Some to) f = refl

-- ---- all slots
pub fit_at : (l : List Slot) (k : ℕ) → all_fit l ≡ true → k < length l → counts_fit (get_or l k no_slot).lifecycle ≡ true
unfolding all_fit
fit_at [] k e h = absurd (not-suc-le-zero h)
fit_at (s ∷ ss) zero e h = (both (counts_fit s.lifecycle) (all_fit ss) e).0
fit_at (s ∷ ss) (suc k) e h = fit_at ss k (both (counts_fit s.lifecycle) (all_fit ss) e).1 (le_of_suc-le-suc h)

pub fit_set : (l : List Slot) (k : ℕ) (y : Slot) → all_fit l ≡ true → counts_fit y.lifecycle ≡ true → all_fit (set l k y) ≡ true
unfolding all_fit
fit_set [] k y e g = refl
fit_set (s ∷ ss) zero y e g = rw g (both (counts_fit s.lifecycle) (all_fit ss) e).1
fit_set (s ∷ ss) (suc k) y e g =
    let h = both (counts_fit s.lifecycle) (all_fit ss) e in
    rw h.0 (fit_set ss k y h.1 g)

no_fit : (a b : Bool) → b ≡ false → (a && b) ≡ false
no_fit true b e = e
no_fit false b e = refl

pub past_set : (l : List Slot) (k : ℕ) (y : Slot) → k < length l → counts_fit y.lifecycle ≡ false → all_fit (set l k y) ≡ false
unfolding all_fit
past_set [] k y h g = absurd (not-suc-le-zero h)
past_set (s ∷ ss) zero y h g = rw g
past_set (s ∷ ss) (suc k) y h g = no_fit (counts_fit s.lifecycle) (all_fit (set ss k y)) (past_set ss k y (le_of_suc-le-suc h) g)

-- a slot that has passed stays so, booked or not
keep_past : (a b x : Bool) → (a ≡ false → x ≡ false) → (a && b) ≡ false → (x && b) ≡ false
keep_past true true x p e = absurd (true≢false e)
keep_past true false true p e = refl
keep_past true false false p e = refl
keep_past false b x p e = rw (p refl)

rest_past : (a b y : Bool) → (b ≡ false → y ≡ false) → (a && b) ≡ false → (a && y) ≡ false
rest_past true b y p e = p e
rest_past false b y p e = refl

pub past_stays : (l : List Slot) (k : ℕ) (to : Option ℤ) (f : ℤ) → all_fit l ≡ false → all_fit (set l k (next_slot (get_or l k no_slot) to f)) ≡ false
unfolding all_fit
past_stays [] k to f e = e
past_stays (s ∷ ss) zero to f e = keep_past (counts_fit s.lifecycle) (all_fit ss) (counts_fit (next_slot s to f).lifecycle) (next_past s to f) e
past_stays (s ∷ ss) (suc k) to f e =
    rest_past (counts_fit s.lifecycle) (all_fit ss) (all_fit (set ss k (next_slot (get_or ss k no_slot) to f))) (past_stays ss k to f) e

pub fit_more : (l : List Slot) (y : Slot) → all_fit l ≡ true → counts_fit y.lifecycle ≡ true → all_fit (l ++ (y ∷ [])) ≡ true
unfolding all_fit
fit_more [] y e g = rw g
fit_more (s ∷ ss) y e g =
    let h = both (counts_fit s.lifecycle) (all_fit ss) e in
    rw h.0 (fit_more ss y h.1 g)

pub past_more : (l : List Slot) (y : Slot) → all_fit l ≡ false → all_fit (l ++ (y ∷ [])) ≡ false
unfolding all_fit
past_more [] y e = absurd (true≢false e)
past_more (s ∷ ss) y e = rest_past (counts_fit s.lifecycle) (all_fit ss) (all_fit (ss ++ (y ∷ []))) (past_more ss y) e
