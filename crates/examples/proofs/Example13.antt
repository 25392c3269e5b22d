-- Example 13 of document 01: truth 7 to 1, a miss, then to 2. The search's answer to each frame is put in its place, and the rest computes.
-- Assumes nothing.
use Prim.Native.Nat.{ℕ}
use mathlib.Core.Path.{◌≡◌, refl, sym, ap, ◌∙◌, subst}
use mathlib.Core.Bool.{cond}
use mathlib.Core.List.{List, [], ◌∷◌}
use mathlib.Core.Logic.{inl}
use lib.Dec.{lit<, eqb}
use lib.IntN.{pos}
use lib.ListN.{length, replicate}
use lib.Ieee.{Float, of_int, add, sub, mul, div, lt, le, eq, is_nan}
use Rattle.floats.specs.Float.{zero64, is_finite, is_zero, abs_of, min_of, max_of}
use Rattle.counts.specs.Counts.{fits}
use Rattle.iou.specs.Boxes.{bad_box, area_of, rectangle_of, intersection_of, union_of, away_of, distance_of}
use Rattle.matrix.specs.Matrix.{matrix_of, row_of, any_bad, any_read_bad}
use Rattle.matrix.specs.declared.Measure.TheVariants.{Away}
use Rattle.square.specs.Index.{gather, count, any}
use Rattle.square.specs.Square.{over, zero_at}
use Rattle.paths.specs.State.{State, state}
use Rattle.start.specs.Steps.{start_of}
use Rattle.search.specs.Run.{Run, stop}
use Rattle.optimize.specs.declared.AssignmentResult.{AssignmentResult}
use Rattle.optimize.specs.Answer.{assignment_no, Answered, found, no_columns, passes_of, result_of, rows_alone}
use Rattle.solver.specs.Solution.{solution_of, answer_is}
use Rattle.lifecycle.specs.Lifecycle.{fragments, room_to_match, room_to_miss, matched_after, missed_after, sound_counts}
use Rattle.ids.specs.Ids.{seek_from, distinct_of}
use Rattle.slots.specs.Slots.{missed_slot, matched_slot, sound_of, counts_sound}
use Rattle.rows.specs.declared.ExtendedMOTAccumulator.{ExtendedMOTAccumulator}
use Rattle.rows.specs.Rows.{new_state, row_at, spot_of, step_of, book_row, trial_after}
use Rattle.frame.specs.declared.Booked.{Booked}
use Rattle.frame.specs.Frame.{next_frame, room_for_all, raised_by, closed, frame_of, totals_sound, sound_state}
use Rattle.shape.specs.Shape.{size_no, fit_no, shape_no}
use Rattle.pairing.specs.Pairing.{pairing_no, sum_of, pairs_in, paired_of, no_pairs, frame_pairs, pairing_at, pairing_of}
use Rattle.extended.specs.Update.{refused_at, paired_after, frame_after, update_of}
use Rattle.extended.specs.Play.{Frame, update_by, played_of}
use Rattle.examples.specs.Shown.{shown, pair}
use Rattle.examples.specs.Asked.{Answer, switched, answer_of, frames, numbers_of}
use Rattle.examples.specs.Table.{half, paired, unpaired}
use Rattle.examples.proofs.Steps.{full_by}

-- ---- the search of one cell, 0.0: the first pass pairs it
paired_state : State
paired_state = state (replicate 64 zero64) (0 ∷ replicate 63 64) (0 ∷ replicate 63 64)

start : start_of (zero64 ∷ []) 1 1 ≡ paired_state
unfolding paired_state start_of over zero_at is_finite is_zero abs_of lt sub
start = refl

run : Run 1 paired_state 0 0 paired_state
unfolding paired_state any
run = stop (inl (full_by 1 paired_state refl))

number_1 : assignment_no 1 1 1 ≡ 0
unfolding assignment_no
number_1 = refl

abbrev one : AssignmentResult
one = shown (pair 0 0 ∷ []) [] [] 0 0

one_answers : Answered (zero64 ∷ []) 1 1 half one
unfolding result_of paired_state gather count any passes_of le eq lt
one_answers = found number_1 (lit< tt) (lit< tt)
    (record { square = paired_state.square; cols = paired_state.cols; run = subst (λ (x : State). Run 1 x 0 0 paired_state) (sym start) run })

-- ---- the search beside no prediction: the row is left
number_0 : assignment_no 0 1 0 ≡ 0
unfolding assignment_no
number_0 = refl

-- ---- an update whose search answers a
abbrev searched : Frame → List Float
searched f = matrix_of Away f.gt_boxes f.pred_boxes (length f.gt_ids)

abbrev answering : AssignmentResult → Frame → ExtendedMOTAccumulator → Booked
answering a f s =
    cond (sound_state s)
    (paired_after s f.gt_ids f.pred_ids
    (pairing_at (pairing_no (length f.gt_ids) f.gt_boxes (length f.pred_ids) f.pred_boxes)
    (cond (eqb (length f.gt_ids) 0) (no_pairs 0 (length f.pred_ids) s.total_distance)
    (pairs_in (searched f) (length f.pred_ids) a s.total_distance))))
    (refused_at 1 s)

answers : (f : Frame) (s : ExtendedMOTAccumulator)
    → update_by s f ≡ answering (solution_of (searched f) (length f.gt_ids) (length f.pred_ids) f.threshold) f s
unfolding update_of frame_after pairing_of frame_pairs paired_of
answers f s = refl

at_zero : (id : ℕ) → searched (paired id) ≡ zero64 ∷ []
unfolding matrix_of row_of distance_of away_of intersection_of rectangle_of union_of area_of min_of max_of of_int add sub mul div lt eq is_nan
at_zero id = refl

met : (id : ℕ) (s : ExtendedMOTAccumulator) → update_by s (paired id) ≡ answering one (paired id) s
met id s =
    answers (paired id) s
    ∙ (ap (λ (m : List Float). answering (solution_of m 1 1 half) (paired id) s) (at_zero id)
    ∙ ap (λ (a : AssignmentResult). answering a (paired id) s) (sym (answer_is (zero64 ∷ []) 1 1 half one_answers)))

unmet : (s : ExtendedMOTAccumulator) → update_by s unpaired ≡ answering (rows_alone 1) unpaired s
unfolding matrix_of row_of
unmet s =
    answers unpaired s ∙ ap (λ (a : AssignmentResult). answering a unpaired s) (sym (answer_is [] 1 0 half (no_columns number_0 (lit< tt) refl)))

-- ---- three frames, one after the other
abbrev three : (ExtendedMOTAccumulator → Booked) → (ExtendedMOTAccumulator → Booked) → (ExtendedMOTAccumulator → Booked) → Answer
three f g h =
    switched ((f new_state).number ∷ (g (f new_state).state).number ∷ (h (g (f new_state).state).state).number ∷ [])
    (h (g (f new_state).state).state).state.num_switches

computed : three (answering one (paired 1)) (answering (rows_alone 1) unpaired) (answering one (paired 2)) ≡ switched (0 ∷ 0 ∷ 0 ∷ []) (pos 1)
unfolding sound_state totals_sound sound_of distinct_of sound_counts counts_sound pairing_no shape_no size_no fit_no any_read_bad any_bad bad_box sum_of matrix_of row_of rows_alone gather frame_of closed room_for_all raised_by next_frame fits trial_after book_row step_of spot_of seek_from row_at missed_slot matched_slot room_to_match room_to_miss matched_after missed_after fragments of_int lt le eq
computed = refl

-- EXAMPLE 13: one switch
pub example_13 : answer_of (frames (paired 1 ∷ unpaired ∷ paired 2 ∷ [])) ≡ switched (0 ∷ 0 ∷ 0 ∷ []) (pos 1)
unfolding numbers_of played_of
example_13 = (λ i. three (λ s. met 1 s i) (λ s. unmet s i) (λ s. met 2 s i)) ∙ computed
