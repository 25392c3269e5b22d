-- A sound state stays sound, so the inner layer may run over what an update left. (That a refused one stays as it is, is in motmetrics_update.) Assumes nothing.
use mathlib.Core.Path.{◌≡◌, refl, ap, ◌∙◌}
use mathlib.Core.Bool.{Bool, true, false, cond}
use mathlib.Core.List.{List}
use Prim.Native.Nat.{ℕ, zero, suc, ◌+◌}
use native.Mathlib.Omega.{arith}
use borrow.Author.Tests.{ltb-false, le-leb}
use lib.Dec.{ltb, eqb}
use lib.IntN.{ℤ}
use lib.ListN.{length}
use lib.Ieee.{Float}
use Rattle.counts.proofs.Tests.{both}
use Rattle.events.specs.declared.Event.{Event}
use Rattle.events.specs.declared.Log.{Log}
use Rattle.events.specs.Events.{log_sound}
use Rattle.partners.specs.Partners.{truths_sound}
use Rattle.partners.proofs.Meaning.{booked_sound}
use Rattle.greedy.specs.declared.Pairing.{Pairing}
use Rattle.greedy_pairs.specs.Pairs.{by_distance}
use Rattle.booking.specs.Booking.{events_of, log_after}
use Rattle.motmetrics.specs.declared.MOTAccumulator.{MOTAccumulator}
use Rattle.motmetrics.specs.State.{sound_state}
use Rattle.motmetrics_update.specs.declared.Updated.{Updated}
use Rattle.motmetrics_update.specs.Update.{refused_at, closed_at, matched_by, book_no, book_of, frame_after, update_of}
use Rattle.motmetrics_update.proofs.Kept.{closed_keeps}
use Rattle.sizes.specs.Sizes.{shape_no}

closed_sound : (n : ℕ) (s next : MOTAccumulator) → sound_state s ≡ true → (n ≡ 0 → sound_state next ≡ true) → sound_state (closed_at n s next).state ≡ true
closed_sound zero s next a f = f refl
closed_sound (suc n) s next a f = ap sound_state (closed_keeps (suc n) s next (λ (e : suc n ≡ 0). omega arith)) ∙ a

-- number 0 is given where the log has room
has_room : (a b : Bool) → ◌≡◌ {A = ℕ} (cond a 5 (cond b 6 0)) 0 → b ≡ false
has_room true b e = absurd (omega arith)
has_room false true e = absurd (omega arith)
has_room false false e = refl

log_sound_lem : (l : Log) (es : List Event) → ltb 1024 (l.used + length es) ≡ false → log_sound (log_after l es) ≡ true
unfolding log_after
log_sound_lem l es e = le-leb (l.used + length es) 1024 (ltb-false 1024 (l.used + length es) e)

module _ (s : MOTAccumulator) (frame : ℤ) (objects hypotheses : List ℤ) (distances : List Float) (a : sound_state s ≡ true) where
  book_sound : (p : Pairing) → sound_state (book_of s frame objects hypotheses distances p).state ≡ true
  unfolding book_of sound_state
  book_sound p =
      let b = matched_by s objects hypotheses p in
      let es = events_of frame objects hypotheses distances p b.switched in
      let h = both (log_sound s.log) (truths_sound s.last_match) a in
      closed_sound (book_no s b es) s (record { log = log_after s.log es; last_match = b.truths }) a
      (λ (z : book_no s b es ≡ 0).
      rw (log_sound_lem s.log es (has_room b.full (ltb 1024 (s.log.used + length es)) z), booked_sound s.last_match _ h.1) refl)

  pick_sound : (b : Bool) (x y : Updated) → sound_state x.state ≡ true → sound_state y.state ≡ true → sound_state (cond b x y).state ≡ true
  pick_sound true x y p q = p
  pick_sound false x y p q = q

  frame_sound : sound_state (frame_after s frame objects hypotheses distances).state ≡ true
  unfolding frame_after
  frame_sound =
      let number = shape_no (length objects) (length hypotheses) (length distances) in
      let p = by_distance distances (length hypotheses) in
      pick_sound (eqb number 0) (book_of s frame objects hypotheses distances p) (refused_at number s) (book_sound p) a

  pub sound_kept : sound_state (update_of s frame objects hypotheses distances).state ≡ true
  unfolding update_of
  sound_kept = pick_sound (sound_state s) (frame_after s frame objects hypotheses distances) (refused_at 1 s) frame_sound a
