-- Document 01, "Lifecycles and events" and "Numbers given back": the update of module 4's MOTAccumulator, from any state and any frame.
-- The booking is that of `metrics_booking`, passed on.
use Rattle.std.specs.Prelude.{cond, List, map, eqb, ℤ, length, Float}
use Rattle.std.specs.Float.{binary64}
use Rattle.std.specs.Float.Ieee.{sub}
use Rattle.floats.specs.Float.{one64}
use Rattle.matrix.specs.Matrix.{matrix_of}
use Rattle.matrix.specs.declared.Measure.TheVariants.{Shared}
use Rattle.shape.specs.Shape.{shape_no}
use Rattle.greedy_pairs.specs.Pairs.{by_share}
use Rattle.metrics.specs.declared.MOTAccumulator.{MOTAccumulator}
use Rattle.metrics.specs.State.{sound_state}
use Rattle.metrics_booking.specs.declared.Updated.{Updated}
pub use Rattle.metrics_booking.specs.Booking.{Within, refused_at, closed_at, book_no, matched_by, booked_with}
unfoldable pub use Rattle.metrics_booking.specs.Booking.{book_of}

-- ---- a frame
-- "stores 1.0 - IoU"
abbrev pub stored_of : List Float → List Float
stored_of shares = map (sub binary64 one64) shares

-- "takes IoU >= threshold, descending"
abbrev pub paired_after : MOTAccumulator → ℤ → List ℤ → List ℤ → List Float → Float → Updated
paired_after s frame truths hypotheses shares threshold =
    book_of s frame truths hypotheses (stored_of shares) (by_share shares threshold (length hypotheses))

-- over a state that refusal 1 lets by
unfoldable pub frame_after : MOTAccumulator → ℤ → List ℤ → List ℤ → List Float → List Float → Float → Updated
frame_after s frame truths hypotheses gt hyp threshold =
    let number = shape_no (length truths) (length gt) (length hypotheses) (length hyp) in
    cond (eqb number 0) (paired_after s frame truths hypotheses (matrix_of Shared gt hyp (length truths)) threshold) (refused_at number s)

-- THE UPDATE
unfoldable pub update_of : MOTAccumulator → ℤ → List ℤ → List ℤ → List Float → List Float → Float → Updated
update_of s frame truths hypotheses gt hyp threshold =
    cond (sound_state s) (frame_after s frame truths hypotheses gt hyp threshold) (refused_at 1 s)
