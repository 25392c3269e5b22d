-- DOCUMENT 01'S SIXTEEN MARKED EXAMPLES: what the definitions say is what the table says, row by row. Rows of the search go by its law
-- (`answer_is`), every other is computed. Assumes nothing.
use mathlib.Core.Path.{◌≡◌, refl, ap}
use mathlib.Core.List.{List, [], ◌∷◌, map}
use lib.Ieee.{of_int, neg, add, sub, mul, div, lt, le, eq, is_nan}
use Rattle.floats.specs.Float.{min_of, max_of, is_finite}
use Rattle.counts.specs.Counts.{fits}
use Rattle.square.specs.Index.{loop, gather}
use Rattle.iou.specs.Boxes.{iou_distance_of, bad_box, distance_of, away_of, intersection_of, rectangle_of, union_of, area_of, clamped_of, shared_of, quotient_of, iou_share_of}
use Rattle.matrix.specs.Matrix.{row_of, matrix_of}
use Rattle.shape.specs.Shape.{size_no, fit_no, shape_no}
use Rattle.lifecycle.specs.Lifecycle.{fragments, sound_counts, room_to_match, room_to_miss, matched_after, missed_after}
use Rattle.lifecycle.specs.Lifecycle.{update_matched_of, update_missed_of, share_of, coverage_of, class_of}
use Rattle.ids.specs.Ids.{seek_from, distinct_of}
use Rattle.sorting.specs.Sort.{put, put_all, sort_of}
use Rattle.events.specs.Events.{total_of, plus_each, sum_from, tally_of}
use Rattle.scores.specs.Scores.{ratio_of, recall_of, mota_of}
use Rattle.seen.specs.Seen.{seen_at, seen_all, seen_hypotheses, hypotheses_sound}
use Rattle.partners.specs.Partners.{ids_sound, match_at, match_all, switches_of, booked_of, seen_truths}
use Rattle.greedy.specs.Greedy.{taken, marked, pairing_of}
use Rattle.greedy_pairs.specs.Pairs.{by_distance, by_share}
use Rattle.booking.specs.Booking.{events_of, log_after}
use Rattle.motmetrics.specs.State as module3
use Rattle.motmetrics_update.specs.Update as update3
use Rattle.sizes.specs.Sizes as sizes
use Rattle.metrics.specs.State as module4
use Rattle.metrics_update.specs.Update as update4
use Rattle.evaluation.specs.Evaluation.{metrics_of, evaluated_of}
use Rattle.examples.specs.Asked.{Answer, assigned, answer_of}
use Rattle.examples.specs.Table.{Open, Row, table}
use Rattle.examples.proofs.Example5.{example_5}
use Rattle.examples.proofs.Example6.{example_6, example_7}
use Rattle.examples.proofs.Example8.{example_8}
use Rattle.examples.proofs.Sizes.{example_9, example_16}
use Rattle.examples.proofs.Example13.{example_13}

-- a row, and those after it
also : {x y : Answer} {xs ys : List Answer} → x ≡ y → xs ≡ ys → x ∷ xs ≡ y ∷ ys
also p q = λ i. p i ∷ q i

module _ (o : Open) where
  -- they are 1 to 16
  pub numbered : map (λ (r : Row). r.number) (table o) ≡ 1 ∷ 2 ∷ 3 ∷ 4 ∷ 5 ∷ 6 ∷ 7 ∷ 8 ∷ 9 ∷ 10 ∷ 11 ∷ 12 ∷ 13 ∷ 14 ∷ 15 ∷ 16 ∷ []
  numbered = refl

  pub sixteen : map (λ (r : Row). answer_of r.asks) (table o) ≡ map (λ (r : Row). r.says) (table o)
  unfolding iou_distance_of bad_box distance_of away_of intersection_of rectangle_of union_of area_of min_of max_of of_int add sub mul div lt le eq is_nan neg is_finite update_matched_of update_missed_of sound_counts room_to_match room_to_miss fits matched_after missed_after fragments class_of coverage_of share_of update3.update_of module3.sound_state update3.frame_after sizes.shape_no update3.book_of booked_of match_all match_at switches_of seek_from events_of log_after by_distance pairing_of taken marked sort_of put_all put gather loop update4.update_of module4.sound_state ids_sound hypotheses_sound distinct_of update4.frame_after shape_no size_no fit_no update4.book_of seen_truths seen_hypotheses seen_all seen_at by_share tally_of total_of sum_from plus_each mota_of recall_of ratio_of matrix_of row_of iou_share_of shared_of clamped_of quotient_of evaluated_of metrics_of
  sixteen =
      also refl (also refl (also refl (also refl
      (also (ap assigned example_5) (also (ap assigned example_6) (also (ap assigned example_7) (also (ap assigned (example_8 o.limit))
      (also (ap assigned (example_9 o.limit))
      (also refl (also refl (also refl
      (also example_13
      (also refl (also refl
      (also (ap assigned (example_16 o.costs o.limit)) refl)))))))))))))))
