-- A sound state stays sound, accepted or refused: so the inner layer may run over what an update left. Assumes nothing.
use mathlib.Core.Path.{◌≡◌, refl}
use mathlib.Core.Bool.{Bool, true, false, cond}
use mathlib.Core.List.{List}
use Prim.Native.Nat.{ℕ, zero, suc, ◌+◌}
use native.Mathlib.Omega.{arith}
use borrow.Author.Tests.{ltb-false, le-leb, ne_eqb}
use lib.Dec.{ltb, eqb}
use lib.IntN.{ℤ}
use lib.ListN.{length}
use lib.Ieee.{Float}
use Rattle.counts.proofs.Tests.{all_three}
use Rattle.matrix.specs.Matrix.{matrix_of}
use Rattle.matrix.specs.declared.Measure.TheVariants.{Shared}
use Rattle.shape.specs.Shape.{shape_no}
use Rattle.events.specs.declared.Event.{Event}
use Rattle.events.specs.declared.Log.{Log}
use Rattle.events.specs.Events.{log_sound}
use Rattle.seen.specs.Seen.{seen_hypotheses, hypotheses_sound}
use Rattle.seen.proofs.Distinct.{hypotheses_stay_sound}
use Rattle.partners.specs.Partners.{seen_truths, truths_sound}
use Rattle.partners.proofs.Meaning.{seen_sound, booked_sound}
use Rattle.greedy.specs.declared.Pairing.{Pairing}
use Rattle.greedy_pairs.specs.Pairs.{by_share}
use Rattle.booking.specs.Booking.{events_of, log_after}
use Rattle.metrics.specs.declared.MOTAccumulator.{MOTAccumulator}
use Rattle.metrics.specs.State.{sound_state}
use Rattle.metrics_booking.specs.declared.Updated.{Updated}
use Rattle.metrics_update.specs.Update.{refused_at, closed_at, book_no, matched_by, stored_of, book_of, paired_after, frame_after, update_of}

sound_parts : (s : MOTAccumulator) → sound_state s ≡ true → (log_sound s.log ≡ true) × (truths_sound s.truths ≡ true) × (hypotheses_sound s.hypotheses ≡ true)
unfolding sound_state
sound_parts s e = all_three (log_sound s.log) (truths_sound s.truths) (hypotheses_sound s.hypotheses) e

sound_made : (s : MOTAccumulator) → log_sound s.log ≡ true → truths_sound s.truths ≡ true → hypotheses_sound s.hypotheses ≡ true → sound_state s ≡ true
unfolding sound_state
sound_made s a b d = rw (a, b, d)

closed_sound : (n : ℕ) (s next : MOTAccumulator) → sound_state s ≡ true → (n ≡ 0 → sound_state next ≡ true) → sound_state (closed_at n s next).state ≡ true
closed_sound zero s next a f = f refl
closed_sound (suc n) s next a f = rw (ne_eqb (suc n) 0 (λ (e : suc n ≡ 0). omega arith)) a

-- number 0 is given where the log has room
has_room : (a b c : Bool) → ◌≡◌ {A = ℕ} (cond a 5 (cond b 5 (cond c 6 0))) 0 → c ≡ false
has_room true b c e = absurd (omega arith)
has_room false true c e = absurd (omega arith)
has_room false false true e = absurd (omega arith)
has_room false false false e = refl

log_sound_lem : (l : Log) (es : List Event) → ltb 1024 (l.used + length es) ≡ false → log_sound (log_after l es) ≡ true
unfolding log_after
log_sound_lem l es e = le-leb (l.used + length es) 1024 (ltb-false 1024 (l.used + length es) e)

book_sound : (s : MOTAccumulator) (frame : ℤ) (truths hypotheses : List ℤ) (distances : List Float) (p : Pairing) → sound_state s ≡ true
    → sound_state (book_of s frame truths hypotheses distances p).state ≡ true
unfolding book_of
book_sound s frame truths hypotheses distances p a =
    let h = sound_parts s a in
    let t = seen_truths s.truths truths in
    let y = seen_hypotheses s.hypotheses hypotheses in
    let b = matched_by t.truths truths hypotheses p in
    let es = events_of frame truths hypotheses distances p b.switched in
    closed_sound (book_no s t y es) s (record { log = log_after s.log es; truths = b.truths; hypotheses = y.hypotheses }) a
    (λ (z : book_no s t y es ≡ 0).
    sound_made (record { log = log_after s.log es; truths = b.truths; hypotheses = y.hypotheses })
    (log_sound_lem s.log es (has_room t.full y.full (ltb 1024 (s.log.used + length es)) z))
    (booked_sound t.truths _ (seen_sound s.truths truths h.1))
    (hypotheses_stay_sound s.hypotheses hypotheses h.2))

pick_sound : (b : Bool) (x y : Updated) → sound_state x.state ≡ true → sound_state y.state ≡ true → sound_state (cond b x y).state ≡ true
pick_sound true x y p q = p
pick_sound false x y p q = q

pub frame_sound : (s : MOTAccumulator) (frame : ℤ) (truths hypotheses : List ℤ) (gt hyp : List Float) (threshold : Float) → sound_state s ≡ true
    → sound_state (frame_after s frame truths hypotheses gt hyp threshold).state ≡ true
unfolding frame_after
frame_sound s frame truths hypotheses gt hyp threshold a =
    let shares = matrix_of Shared gt hyp (length truths) in
    let number = shape_no (length truths) (length gt) (length hypotheses) (length hyp) in
    pick_sound (eqb number 0) (paired_after s frame truths hypotheses shares threshold) (refused_at number s)
    (book_sound s frame truths hypotheses (stored_of shares) (by_share shares threshold (length hypotheses)) a) a

-- A SOUND STATE STAYS SOUND
pub update_sound_kept : (s : MOTAccumulator) (frame : ℤ) (truths hypotheses : List ℤ) (gt hyp : List Float) (threshold : Float) → sound_state s ≡ true
    → sound_state (update_of s frame truths hypotheses gt hyp threshold).state ≡ true
unfolding update_of
update_sound_kept s frame truths hypotheses gt hyp threshold a =
    pick_sound (sound_state s) (frame_after s frame truths hypotheses gt hyp threshold) (refused_at 1 s) (frame_sound s frame truths hypotheses gt hyp threshold a) a
