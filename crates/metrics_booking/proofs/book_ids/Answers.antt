-- `metrics_booking::book_ids` meets its contract. Assumes nothing.
use mathlib.Core.Path.{refl, sym, ap, subst}
use mathlib.Core.List.{List}
use Prim.Native.Nat.{◌≤◌}
use lib.IntN.{ℤ}
use lib.Ieee.{Float}
use Rattle.std.specs.Prelude.{Some, None}
use Rattle.partners.specs.Partners.{SeenTruths}
use Rattle.partners.proofs.Meaning.{seen_few}
use Rattle.greedy.proofs.Pairings.{pairs_long, pairs_inside}
use Rattle.metrics_booking.proofs.Steps as law
use Rattle.metrics_booking.proofs.book_ids.Goals as goal

pub returns-in_default-clause-refused : goal.returns-in_default-clause-refused
returns-in_default-clause-refused c =
    λ (frame : ℤ) (distances : List Float). law.truths_full c.args.s.now frame c.args.gt_ids.now c.args.hyp_ids.now distances c.args.p.now c.requires.fitting _ c.in_default.ensures refl

pub returns-in_default-see_hypotheses-clause-refused : goal.returns-in_default-see_hypotheses-clause-refused
returns-in_default-see_hypotheses-clause-refused c =
    λ (frame : ℤ) (distances : List Float). law.hypotheses_full c.args.s.now frame c.args.gt_ids.now c.args.hyp_ids.now distances c.args.p.now c.requires.fitting _ c.in-Some.ensures refl _ c.in_default-see_hypotheses.ensures refl

pub returns-then-s-count-gt1024-clause-refused : goal.returns-then-s-count-gt1024-clause-refused
returns-then-s-count-gt1024-clause-refused c =
    λ (frame : ℤ) (distances : List Float). law.log_full c.args.s.now frame c.args.gt_ids.now c.args.hyp_ids.now distances c.args.p.now c.requires.fitting _ c.in-Some.ensures refl _ c.in-Some-see_hypotheses.ensures refl c.if-s-count-gt1024.true

pub book_matches-requires : goal.book_matches-requires
book_matches-requires c =
    let f = c.requires.fitting in
    let e = c.in-Some.ensures in (
      subst (λ (x : SeenTruths). x.truths.used ≤ 256) (sym e) (seen_few c.args.s.now.truths c.args.gt_ids.now (ap (λ (x : SeenTruths). x.full) (sym e))),
      rw (← pairs_long _ _ c.args.p.now f) f.few,
      pairs_inside _ _ c.args.p.now f,
    )

pub returns-in_default-book_matches-clause-accepted : goal.returns-in_default-book_matches-clause-accepted
returns-in_default-book_matches-clause-accepted c =
    law.left c.args.s.now c.args.gt_ids.now c.args.hyp_ids.now c.args.p.now _ c.in-Some.ensures _ c.in-Some-see_hypotheses.ensures c.if-s-count-gt1024.false None c.in_default-book_matches.ensures

pub returns-clause-accepted : goal.returns-clause-accepted
returns-clause-accepted c =
    law.left c.args.s.now c.args.gt_ids.now c.args.hyp_ids.now c.args.p.now _ c.in-Some.ensures _ c.in-Some-see_hypotheses.ensures c.if-s-count-gt1024.false (Some c.in-Some-book_matches.booked) c.in-Some-book_matches.ensures
