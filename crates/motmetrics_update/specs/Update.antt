-- Document 01, "Lifecycles and events" and "Numbers given back": the update of module 3's MOTAccumulator, from any state and any frame.
use Rattle.std.specs.Prelude.{◌≡◌, cond, Some, List, ℕ, ◌+◌, ◌-◌, ◌≤◌, eqb, ltb, ℤ, length, take, Float}
use Rattle.sizes.specs.Sizes.{shape_no}
use Rattle.events.specs.declared.Event.{Event}
use Rattle.partners.specs.Partners.{Booked}
use Rattle.partners.specs.Partners.{pairs_of, booked_of}
use Rattle.matches.specs.Matches.{pairs_booked}
use Rattle.greedy.specs.declared.Pairing.{Pairing}
use Rattle.greedy_pairs.specs.Pairs.{by_distance}
use Rattle.booking.specs.Booking.{events_of, log_after}
use Rattle.motmetrics.specs.declared.MOTAccumulator.{MOTAccumulator}
use Rattle.motmetrics.specs.State.{sound_state}
use Rattle.motmetrics_update.specs.declared.Updated.{Updated}
use Rattle.motmetrics_update.specs.declared.Matched.{Matched}

-- beside a refusal the state is the one that came
abbrev pub refused_at : ℕ → MOTAccumulator → Updated
refused_at number s = record { number = number; state = s }

abbrev pub closed_at : ℕ → MOTAccumulator → MOTAccumulator → Updated
closed_at number s next = record { number = number; state = cond (eqb number 0) next s }

-- ---- a pairing, booked
-- its pairs against the table of last matches, in their order
abbrev pub matched_by : MOTAccumulator → List ℤ → List ℤ → Pairing → Booked
matched_by s objects hypotheses p = booked_of s.last_match (pairs_of objects hypotheses (take p.used p.pairs))

-- 5: the table would hold more ids than it can, the matched ones alone. 6: the log would pass its capacity
abbrev pub book_no : MOTAccumulator → Booked → List Event → ℕ
book_no s b es = cond b.full 5 (cond (ltb 1024 (s.log.used + length es)) 6 0)

abbrev pub booked_with : MOTAccumulator → Booked → List Event → Updated
booked_with s b es = closed_at (book_no s b es) s (record { log = log_after s.log es; last_match = b.truths })

unfoldable pub book_of : MOTAccumulator → ℤ → List ℤ → List ℤ → List Float → Pairing → Updated
book_of s frame objects hypotheses distances p =
    booked_with s (matched_by s objects hypotheses p) (events_of frame objects hypotheses distances p (matched_by s objects hypotheses p).switched)

-- ---- a frame
-- over a state that refusal 1 lets by: "takes all finite distances, ascending"
unfoldable pub frame_after : MOTAccumulator → ℤ → List ℤ → List ℤ → List Float → Updated
frame_after s frame objects hypotheses distances =
    let number = shape_no (length objects) (length hypotheses) (length distances) in
    cond (eqb number 0) (book_of s frame objects hypotheses distances (by_distance distances (length hypotheses))) (refused_at number s)

-- what is booked of a frame that nothing refuses: it is in shape, its pairing is by distance, its pairs find places in the table, and
-- its events find room in the log
pub record Accepted (s : MOTAccumulator) (objects hypotheses : List ℤ) (distances : List Float) (m : Matched) : Type 0 where
  pub shaped : 0 ≡ shape_no (length objects) (length hypotheses) (length distances)
  pub paired : m.p ≡ by_distance distances (length hypotheses)
  pub booked : pairs_booked s.last_match (Some m.booked) ≡ matched_by s objects hypotheses m.p
  pub room : s.log.used + (length objects + length hypotheses - m.p.used) ≤ 1024

-- THE UPDATE
unfoldable pub update_of : MOTAccumulator → ℤ → List ℤ → List ℤ → List Float → Updated
update_of s frame objects hypotheses distances = cond (sound_state s) (frame_after s frame objects hypotheses distances) (refused_at 1 s)
