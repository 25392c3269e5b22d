-- `extended_flat::update_whole` meets its contract. Assumes nothing.
use mathlib.Core.Path.{◌≡◌, sym, ◌∙◌}
use mathlib.Core.Bool.{true}
use native.Mathlib.Omega.{arith}
use lib.Signed.{non_neg}
use Rattle.counts.proofs.Ids.{told}
use Rattle.extended_flat.specs.Flat.{used_in}
use Rattle.extended_flat.proofs.Laws.{lengths}
use Rattle.extended_flat.proofs.Ways as ways
use Rattle.extended_flat.proofs.update_whole.Goals as goal
use Rattle.extended_flat.proofs.update_whole.Goals.{After-not_negative, Else-not-not_negative}

tested : (c : After-not_negative) → c.not_negative.result ≡ non_neg (used_in c.args.counters.now)
tested c = told non_neg (used_in c.args.counters.now) c.not_negative-arg-1.given c.not_negative.ensures

not_below : (c : Else-not-not_negative) → non_neg (used_in c.args.counters.now) ≡ true
not_below c = sym (tested (goal.at.Else-not-not_negative c).After-not_negative) ∙ c.if-not-not_negative.false

pub slice_copy_out-not_negative : goal.slice_copy_out-not_negative
slice_copy_out-not_negative c = let h = (lengths _ _ _ c.requires).1 in omega arith

pub returns-then-not-not_negative : goal.returns-then-not-not_negative
returns-then-not-not_negative c =
    ways.negative c.args.run.now c.args.counters.now c.args.distance.now c.args.gt_ids.now c.args.gt_bboxes.now c.args.pred_ids.now c.args.pred_bboxes.now c.args.threshold c.requires (sym (tested (goal.at.returns-then-not-not_negative c).After-not_negative) ∙ c.if-not-not_negative.true)

pub totals_in-totals-requires : goal.totals_in-totals-requires
totals_in-totals-requires c = let h = lengths _ _ _ c.requires in (h.1, h.2, not_below (goal.at.totals_in-totals-requires c).Else-not-not_negative)

pub update_checked-c-requires : goal.update_checked-c-requires
update_checked-c-requires c = (lengths _ _ _ c.requires).0

pub returns-then-c-ne0 : goal.returns-then-c-ne0
returns-then-c-ne0 c =
    ways.kept c.args.run.now c.args.counters.now c.args.distance.now c.args.gt_ids.now c.args.gt_bboxes.now c.args.pred_ids.now c.args.pred_bboxes.now c.args.threshold c.requires (not_below (goal.at.returns-then-c-ne0 c).Else-not-not_negative) c.totals_in-totals.result c.totals_in-totals.ensures c.update_checked-c.new.run c.update_checked-c.result c.update_checked-c.ensures c.if-c-ne0.true

pub write_totals-requires : goal.write_totals-requires
write_totals-requires c =
    let h = lengths _ _ _ c.requires in
    (h.1, h.2, c.update_checked-c.ensures.within c.if-c-ne0.false)

pub returns : goal.returns
returns c =
    ways.written c.args.run.now c.args.counters.now c.args.distance.now c.args.gt_ids.now c.args.gt_bboxes.now c.args.pred_ids.now c.args.pred_bboxes.now c.args.threshold c.requires (not_below (goal.at.returns c).Else-not-not_negative) c.totals_in-totals.result c.totals_in-totals.ensures c.update_checked-c.new.run c.update_checked-c.result c.update_checked-c.ensures c.if-c-ne0.false
    c.write_totals.new.counters c.write_totals.new.distance c.write_totals.ensures.0 c.write_totals.ensures.1
