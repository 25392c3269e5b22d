-- Document 01, "Lifecycles and events" and "Numbers given back": a frame of module 4 whose pairing is there, booked in any state.
use Rattle.std.specs.Prelude.{◌≡◌, false, cond, Some, List, ℕ, ◌+◌, ◌-◌, ◌≤◌, eqb, ltb, ℤ, length, take, Float}
use Rattle.events.specs.declared.Event.{Event}
use Rattle.seen.specs.Seen.{SeenHypotheses}
use Rattle.seen.specs.Seen.{seen_hypotheses, hypotheses_seen}
use Rattle.partners.specs.Partners.{Booked}
use Rattle.partners.specs.Partners.{SeenTruths}
use Rattle.partners.specs.declared.Truths.{Truths}
use Rattle.partners.specs.Partners.{pairs_of, booked_of, seen_truths}
use Rattle.greedy.specs.declared.Pairing.{Pairing}
use Rattle.booking.specs.Booking.{events_of, log_after}
use Rattle.metrics.specs.declared.MOTAccumulator.{MOTAccumulator}
use Rattle.metrics_booking.specs.declared.Updated.{Updated}
use Rattle.metrics_booking.specs.declared.Tables.{Tables}

-- used counts within the capacities: what the inner layer needs of a sound state
pub record Within (s : MOTAccumulator) : Type 0 where
  pub log : s.log.used ≤ 1024
  pub truths : s.truths.used ≤ 256
  pub hypotheses : s.hypotheses.used ≤ 1024

-- beside a refusal the state is the one that came
abbrev pub refused_at : ℕ → MOTAccumulator → Updated
refused_at number s = record { number = number; state = s }

abbrev pub closed_at : ℕ → MOTAccumulator → MOTAccumulator → Updated
closed_at number s next = record { number = number; state = cond (eqb number 0) next s }

-- ---- a pairing, booked
-- "It records seen ids on empty sides also": all ids of both sides, before the pairs are looked at
-- 5: a table would hold more ids than it can. 6: the log would pass its capacity
abbrev pub book_no : MOTAccumulator → SeenTruths → SeenHypotheses → List Event → ℕ
book_no s t h es = cond t.full 5 (cond h.full 5 (cond (ltb 1024 (s.log.used + length es)) 6 0))

-- the pairs against the table of the truth ids seen, in their order
abbrev pub matched_by : Truths → List ℤ → List ℤ → Pairing → Booked
matched_by t truths hypotheses p = booked_of t (pairs_of truths hypotheses (take p.used p.pairs))

abbrev pub booked_with : MOTAccumulator → SeenTruths → SeenHypotheses → Booked → List Event → Updated
booked_with s t h b es =
    closed_at (book_no s t h es) s (record { log = log_after s.log es; truths = b.truths; hypotheses = h.hypotheses })

unfoldable pub book_of : MOTAccumulator → ℤ → List ℤ → List ℤ → List Float → Pairing → Updated
book_of s frame truths hypotheses distances p =
    let t = seen_truths s.truths truths in
    let b = matched_by t.truths truths hypotheses p in
    booked_with s t (seen_hypotheses s.hypotheses hypotheses) b (events_of frame truths hypotheses distances p b.switched)

-- ---- a frame that nothing refuses
-- what it leaves in the tables: all its ids are seen, its pairs are booked, and its events find room in the log
pub record Accepted (s : MOTAccumulator) (gt hyp : List ℤ) (p : Pairing) (t : Tables) : Type 0 where
  pub truths_fit : (seen_truths s.truths gt).full ≡ false
  pub truths_are : t.truths ≡ (matched_by (seen_truths s.truths gt).truths gt hyp p).truths
  pub switched_are : t.switched ≡ (matched_by (seen_truths s.truths gt).truths gt hyp p).switched
  pub hypotheses_are : hypotheses_seen s.hypotheses (Some t.hypotheses) ≡ seen_hypotheses s.hypotheses hyp
  pub room : s.log.used + (length gt + length hyp - p.used) ≤ 1024
