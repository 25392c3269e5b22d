-- `search::correct` meets its contract, whatever table of rows goes with the marks. Assumes nothing.
use Prim.Native.Nat.{◌*◌, ◌≤◌}
use mathlib.Core.Path.{◌≡◌, sym, ◌∙◌}
use native.Mathlib.Nat.{le_of_eq}
use lib.ListN.{length}
use Rattle.corrections.proofs.HotRows.{columns_of}
use Rattle.search.proofs.SearchCode as code
use Rattle.search.proofs.correct.Goals as goal
use Rattle.search.proofs.correct.Goals.{At-loop-outside}

-- the square keeps its length
as_long : (a : At-loop-outside) → a.args.n * 64 ≡ length a.loop-outside.c
as_long a = sym (a.loop-outside.invariant a.requires.0 a.requires.1).marked.ok.len

small : (a : At-loop-outside) → a.args.n ≤ 64
small a = a.requires.1.ok.tables.n64

pub loop-outside-init : goal.loop-outside-init
loop-outside-init c rows h = code.corr_begin _ _ rows _ _ _ h

pub least_over-m-requires : goal.least_over-m-requires
least_over-m-requires c =
    (small (goal.at.least_over-m-requires c).At-loop-outside, le_of_eq (as_long (goal.at.least_over-m-requires c).At-loop-outside), columns_of _ _ _ _ _ (small (goal.at.least_over-m-requires c).At-loop-outside) c.pick-aways.ensures)

pub returns-then-is_some : goal.returns-then-is_some
returns-then-is_some c rows h =
    code.corr_met _ _ rows _ h.ok _ _ _ _ (c.loop-outside.invariant rows h) _ (c.least_over-m.ensures _ c.pick-aways.ensures) _ c.useful.ensures (c.if-not-useful.false) _ c.shift.ensures.shifted

pub loop-outside-preserved : goal.loop-outside-preserved
loop-outside-preserved c rows h =
    code.corr_again _ _ rows _ h.ok _ _ _ _ (c.loop-outside.invariant rows h) _ (c.least_over-m.ensures _ c.pick-aways.ensures) _ c.useful.ensures (c.if-not-useful.false) _ c.shift.ensures.shifted _ _ _ c.shift.ensures.marked
    (code.none_met _ _ c.spread.result (sym c.is_some.ensures ∙ c.if-is_some.false) c.spread.ensures)
