-- `seen::see_hypotheses` meets its contract. Assumes nothing.
use Rattle.std.proofs.Common.{rules, ◌≡◌, refl, sym, ap, ◌∙◌, true, false, length, take}
use lib.Dec.{ltb}
use Rattle.seen.specs.Seen.{seen_all, seen_hypotheses, hypotheses_seen}
use Rattle.seen.proofs.Growth.{says_full, says_fits}
use Rattle.seen.proofs.see_hypotheses.Goals as goal

pub returns-in_err-used : goal.returns-in_err-used
unfolding seen_hypotheses
returns-in_err-used c =
    let h = c.in_err-used.ensures in
    let l = seen_all (take c.args.h.used c.args.h.ids) c.args.ids.now in
    let n : length c.args.h.ids ≡ 1024 = search rules in
    let f : ltb 1024 (length l) ≡ true = rw n at (says_full (length c.args.h.ids) l _ h.0 refl) in
    ap (hypotheses_seen c.args.h) c.from_residual.ensures ∙ sym (rw f)

pub returns : goal.returns
unfolding seen_hypotheses
returns c =
    let h = c.in_ok-used.ensures in
    let l = seen_all (take c.args.h.used c.args.h.ids) c.args.ids.now in
    let n : length c.args.h.ids ≡ 1024 = search rules in
    let f = says_fits c.args.h.ids l _ h.0 refl in
    let g : ltb 1024 (length l) ≡ false = rw n at f.0 in
    rw g (λ j. record { full = false; hypotheses = record { ids = (h.1 ∙ f.2) j; used = f.1 j } })
