-- `metrics_in_place::book` meets its contract. Assumes nothing.
use mathlib.Core.Path.{◌≡◌, sym, ◌∙◌}
use mathlib.Core.Bool.{false}
use Prim.Native.Nat.{◌≤◌}
use native.Mathlib.Omega.{arith}
use mir.Facts.{to_z-of_z}
use borrow.Author.Tests.{not-true, not-false}
use Rattle.seen.specs.Seen.{hypotheses_of, seen_hypotheses}
use Rattle.partners.specs.Partners.{seen_truths}
use Rattle.greedy.proofs.Pairings.{pairs_long, pairs_inside}
use Rattle.truths_in_place.specs.Table.{truths_in}
use Rattle.truths_in_place.proofs.Room.{truths_few}
use Rattle.metrics_in_place.specs.InPlace.{runs_of}
use Rattle.metrics_in_place.proofs.Steps as law
use Rattle.metrics_in_place.proofs.book.Goals as goal
use Rattle.metrics_in_place.proofs.book.Goals.{Else-not-hypotheses_fit, Else-not-truths_fit}

-- there is room for the truths
truths_room : (c : Else-not-truths_fit) → (seen_truths (truths_in c.args.table.now c.args.used.truths) c.args.gt_ids.now).full ≡ false
truths_room c = not-true _ (sym c.truths_fit.ensures ∙ c.if-not-truths_fit.false)

-- and for the hypotheses
hypotheses_room : (c : Else-not-hypotheses_fit) → (seen_hypotheses (hypotheses_of c.args.hypotheses.now c.args.used.hypotheses) c.args.hyp_ids.now).full ≡ false
hypotheses_room c = not-true _ (sym c.hypotheses_fit.ensures ∙ c.if-not-hypotheses_fit.false)

pub returns-then-not-truths_fit : goal.returns-then-not-truths_fit
returns-then-not-truths_fit c =
    law.no_truths (runs_of c.args.numbers.now c.args.log_distances.now c.args.table.now c.args.hypotheses.now) c.args.used c.requires.within c.args.frame c.args.gt_ids.now c.args.hyp_ids.now c.args.distances.now c.args.p c.requires.fitting (not-false _ (sym c.truths_fit.ensures ∙ c.if-not-truths_fit.true))

pub returns-then-not-hypotheses_fit : goal.returns-then-not-hypotheses_fit
returns-then-not-hypotheses_fit c =
    law.no_hypotheses (runs_of c.args.numbers.now c.args.log_distances.now c.args.table.now c.args.hypotheses.now) c.args.used c.requires.within c.args.frame c.args.gt_ids.now c.args.hyp_ids.now c.args.distances.now c.args.p c.requires.fitting (truths_room (goal.at.returns-then-not-hypotheses_fit c).Else-not-truths_fit) (not-false _ (sym c.hypotheses_fit.ensures ∙ c.if-not-hypotheses_fit.true))

pub returns-then-used-count-gt1024 : goal.returns-then-used-count-gt1024
returns-then-used-count-gt1024 c =
    law.no_log (runs_of c.args.numbers.now c.args.log_distances.now c.args.table.now c.args.hypotheses.now) c.args.used c.requires.within c.args.frame c.args.gt_ids.now c.args.hyp_ids.now c.args.distances.now c.args.p c.requires.fitting (truths_room (goal.at.returns-then-used-count-gt1024 c).Else-not-truths_fit) (hypotheses_room (goal.at.returns-then-used-count-gt1024 c).Else-not-hypotheses_fit) c.if-used-count-gt1024.true

pub see_truths-truths-requires : goal.see_truths-truths-requires
see_truths-truths-requires c =
    let w = c.requires.within in
    record { used_bound = (w.few_truths, w.table); ids_value = truths_room (goal.at.see_truths-truths-requires c).Else-not-truths_fit }

pub book_matches-matched-requires : goal.book_matches-matched-requires
book_matches-matched-requires c =
    let w = c.requires.within in
    let f = c.requires.fitting in
    let n = c.see_truths-truths.ensures.count in
    let h = truths_few c.args.table.now c.args.used.truths w.few_truths c.args.gt_ids.now (truths_room (goal.at.book_matches-matched-requires c).Else-not-truths_fit) in record { used_bound = (let g : c.see_truths-truths.result ≤ 256 = omega arith in g, c.see_truths-truths.auto.table ∙ w.table, rw (← pairs_long _ _ c.args.p f) f.few, pairs_inside _ _ c.args.p f); pairs_value = law.never (runs_of c.args.numbers.now c.args.log_distances.now c.args.table.now c.args.hypotheses.now) c.args.used c.requires.within c.args.frame c.args.gt_ids.now c.args.hyp_ids.now c.args.distances.now c.args.p c.requires.fitting (truths_room (goal.at.book_matches-matched-requires c).Else-not-truths_fit) (hypotheses_room (goal.at.book_matches-matched-requires c).Else-not-hypotheses_fit) c.if-used-count-gt1024.false c.see_truths-truths.new.table c.see_truths-truths.result c.see_truths-truths.ensures }

pub returns : goal.returns
returns c =
    law.all (runs_of c.args.numbers.now c.args.log_distances.now c.args.table.now c.args.hypotheses.now) c.args.used c.requires.within c.args.frame c.args.gt_ids.now c.args.hyp_ids.now c.args.distances.now c.args.p c.requires.fitting (truths_room (goal.at.returns c).Else-not-truths_fit) (hypotheses_room (goal.at.returns c).Else-not-hypotheses_fit) c.if-used-count-gt1024.false c.see_truths-truths.new.table c.see_truths-truths.result c.see_truths-truths.ensures
    c.see_hypotheses-known.new.run c.see_hypotheses-known.result c.see_hypotheses-known.ensures c.book_matches-matched.result c.book_matches-matched.new.table c.book_matches-matched.ensures
    _ (to_z-of_z c.ranges.frame) c.book_frame-events.result c.book_frame-events.ensures.value c.book_frame-events.new.numbers c.book_frame-events.ensures.numbers_after c.book_frame-events.new.log_distances c.book_frame-events.ensures.log_distances_after
