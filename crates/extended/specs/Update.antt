-- Document 01, "Lifecycles and events" and "Numbers given back": the extended accumulator's update, from any state and any frame.
-- The booking is that of `extended_booking`, passed on.
use Rattle.std.specs.Prelude.{cond, List, eqb, ℤ, length, Float}
use Rattle.rows.specs.declared.ExtendedMOTAccumulator.{ExtendedMOTAccumulator}
use Rattle.frame.specs.declared.Booked.{Booked}
use Rattle.frame.specs.Frame.{sound_state}
use Rattle.pairing.specs.Pairing.{Pairing}
use Rattle.pairing.specs.Pairing.{pairing_of}
pub use Rattle.extended_booking.specs.Booking.{refused_at, Lie, rows_in, booked_with}

-- 2, 3 and 4 come before anything is booked
abbrev pub paired_after : ExtendedMOTAccumulator → List ℤ → List ℤ → Pairing → Booked
paired_after s gt_ids pred_ids p = cond (eqb p.number 0) (booked_with s gt_ids pred_ids p) (refused_at p.number s)

-- the frame's pairing; the distances are summed on the state's total
abbrev pub pairing_in : ExtendedMOTAccumulator → List ℤ → List Float → List ℤ → List Float → Float → Pairing
pairing_in s gt_ids gt pred_ids pred threshold = pairing_of (length gt_ids) gt (length pred_ids) pred threshold s.total_distance

-- a frame over a state that refusal 1 lets by
unfoldable pub frame_after : ExtendedMOTAccumulator → List ℤ → List Float → List ℤ → List Float → Float → Booked
frame_after s gt_ids gt pred_ids pred threshold = paired_after s gt_ids pred_ids (pairing_in s gt_ids gt pred_ids pred threshold)

-- THE UPDATE
unfoldable pub update_of : ExtendedMOTAccumulator → List ℤ → List Float → List ℤ → List Float → Float → Booked
update_of s gt_ids gt pred_ids pred threshold = cond (sound_state s) (frame_after s gt_ids gt pred_ids pred threshold) (refused_at 1 s)
