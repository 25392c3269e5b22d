-- `partners::see_truths` meets its contract. Assumes nothing.
use Rattle.std.proofs.Common.{rules, ◌≡◌, ◌≤◌, ◌-◌, ◌++◌, ℕ, ℤ, List, refl, sym, ap, ◌∙◌, true, false, length, take, arith, replicate}
use borrow.Author.Tests.{ltb-false}
use lib.Dec.{ltb}
use lib.Seq.{length-take-le}
use Rattle.seen.specs.Seen.{seen_all, seen_of, over}
use Rattle.seen.proofs.Growth.{says_full, says_fits, all_long}
use Rattle.partners.specs.Partners.{nobody, seen_truths, truths_seen}
use Rattle.partners.proofs.Fresh.{filled}
use Rattle.partners.proofs.see_truths.Goals as goal

-- the places that a frame's ids take are after those in use, and within the table
between : (run ids : List ℤ) (used n : ℕ) → length run ≡ 256 → used ≤ 256 → record { used = n; full = false } ≡ seen_of (length run) (seen_all (take used run) ids)
    → (used ≤ n) × (n ≤ 256)
between run ids used n m k e =
    let l = seen_all (take used run) ids in
    let f = says_fits run l _ e refl in
    let u = f.1 in
    let h = ltb-false (length run) (length l) f.0 in
    let w = length-take-le used run (omega arith) in
    let g = all_long (take used run) ids in
    (omega arith, omega arith)

pub returns-in_err-used : goal.returns-in_err-used
unfolding seen_truths
returns-in_err-used c =
    let h = c.in_err-used.ensures in
    let l = seen_all (take c.args.t.used c.args.t.ids) c.args.ids.now in
    let n : length c.args.t.ids ≡ 256 = search rules in
    let f : ltb 256 (length l) ≡ true = rw n at (says_full (length c.args.t.ids) l _ h.0 refl) in
    ap (truths_seen c.args.t) c.from_residual.ensures ∙ sym (rw f)

pub slice_bounds-fill-count : goal.slice_bounds-fill-count
slice_bounds-fill-count c =
    let n : length c.args.t.ids ≡ 256 = search rules in
    (between c.args.t.ids c.args.ids.now c.args.t.used c.in_ok-used.used n c.requires c.in_ok-used.ensures.0).0

pub slice_bounds-lasts-start : goal.slice_bounds-lasts-start
slice_bounds-lasts-start c =
    let n : length c.args.t.ids ≡ 256 = search rules in
    let b = between c.args.t.ids c.args.ids.now c.args.t.used c.in_ok-used.used n c.requires c.in_ok-used.ensures.0 in
    omega arith

pub slice_bounds-lasts-end : goal.slice_bounds-lasts-end
slice_bounds-lasts-end c =
    let n : length c.args.t.ids ≡ 256 = search rules in
    let m : length c.args.t.lasts ≡ 256 = search rules in
    let b = between c.args.t.ids c.args.ids.now c.args.t.used c.in_ok-used.used n c.requires c.in_ok-used.ensures.0 in
    omega arith

pub returns : goal.returns
unfolding seen_truths
returns c =
    let h = c.in_ok-used.ensures in
    let l = seen_all (take c.args.t.used c.args.t.ids) c.args.ids.now in
    let n : length c.args.t.ids ≡ 256 = search rules in
    let f = says_fits c.args.t.ids l _ h.0 refl in
    let g : ltb 256 (length l) ≡ false = rw n at f.0 in
    let k : length c.args.t.lasts ≡ 256 = search rules in
    let b = between c.args.t.ids c.args.ids.now c.args.t.used c.in_ok-used.used n c.requires h.0 in
    let m = length-take-le c.args.t.used c.args.t.ids (omega arith) in
    let w : c.in_ok-used.used - c.args.t.used ≡ length l - length (take c.args.t.used c.args.t.ids) = (λ j. f.1 j - sym m j) in
    let e = c.fill.ensures.after (λ y q. search rules) in
    let lasts = filled nobody c.args.t.lasts c.fill.new.self c.args.t.used c.in_ok-used.used b.0 (omega arith) e
    ∙ ap (λ (z : ℕ). over (take c.args.t.used c.args.t.lasts ++ replicate z nobody) c.args.t.lasts) w in
    rw g (λ j. record { full = false; truths = record { ids = (h.1 ∙ f.2) j; lasts = lasts j; used = f.1 j } })
