-- `motmetrics_in_place::try_book` meets its contract. Assumes nothing.
use mathlib.Core.Path.{◌≡◌, sym, ◌∙◌}
use mathlib.Core.Bool.{true, false}
use mir.Facts.{to_z-of_z}
use borrow.Author.Tests.{not-true, not-false}
use Rattle.greedy.proofs.Pairings.{pairs_long, pairs_inside}
use Rattle.motmetrics_update.specs.Update.{matched_by}
use Rattle.motmetrics_in_place.specs.Updated.{runs_of, state_of}
use Rattle.motmetrics_in_place.proofs.Ways as ways
use Rattle.motmetrics_in_place.proofs.try_book.Goals as goal
use Rattle.motmetrics_in_place.proofs.try_book.Goals.{Else-not-matches_fit}

-- the matched ids fit exactly where the table is not full
fits : (c : Else-not-matches_fit) → (matched_by (state_of (runs_of c.args.numbers.now c.args.log_distances.now c.args.table.now) c.args.used) c.args.object_ids.now c.args.hypothesis_ids.now c.args.p).full ≡ false
fits c = not-true _ (sym c.matches_fit.ensures ∙ c.if-not-matches_fit.false)

pub returns-then-not-matches_fit : goal.returns-then-not-matches_fit
returns-then-not-matches_fit c =
    ways.table_full (runs_of c.args.numbers.now c.args.log_distances.now c.args.table.now) c.args.used c.args.frame_id c.args.object_ids.now c.args.hypothesis_ids.now c.args.distances.now c.args.p c.requires.fitting
    (not-false _ (sym c.matches_fit.ensures ∙ c.if-not-matches_fit.true))

pub returns-then-used-count-gt1024 : goal.returns-then-used-count-gt1024
returns-then-used-count-gt1024 c =
    ways.log_full (runs_of c.args.numbers.now c.args.log_distances.now c.args.table.now) c.args.used c.args.frame_id c.args.object_ids.now c.args.hypothesis_ids.now c.args.distances.now c.args.p c.requires.fitting
    (fits (goal.at.returns-then-used-count-gt1024 c).Else-not-matches_fit) c.if-used-count-gt1024.true

pub book_matches-matched-requires : goal.book_matches-matched-requires
book_matches-matched-requires c =
    let f = c.requires.fitting in
    record { used_bound = (c.requires.within.few_truths, c.requires.within.three_columns, rw (← pairs_long _ _ c.args.p f) f.few, pairs_inside _ _ c.args.p f); pairs_value = fits (goal.at.book_matches-matched-requires c).Else-not-matches_fit }

pub returns : goal.returns
returns c =
    let w = rw (to_z-of_z c.ranges.frame_id) at c.book_frame-events.ensures in
    ways.all_booked (runs_of c.args.numbers.now c.args.log_distances.now c.args.table.now) c.args.used c.args.frame_id c.args.object_ids.now c.args.hypothesis_ids.now c.args.distances.now c.args.p c.requires.fitting
    c.book_matches-matched.result c.book_frame-events.new.numbers c.book_frame-events.new.log_distances c.book_matches-matched.new.table c.book_frame-events.result
    c.book_matches-matched.ensures w.value w.numbers_after w.log_distances_after c.requires.within.four_columns c.requires.within.one_column (fits (goal.at.returns c).Else-not-matches_fit) c.if-used-count-gt1024.false
