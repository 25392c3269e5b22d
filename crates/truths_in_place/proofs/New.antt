-- A run of zeros with nothing used is a new table. Assumes nothing.
use Rattle.std.specs.Prelude.{Option}
use mathlib.Core.Path.{◌≡◌, refl, sym, ap, ◌∙◌}
use mathlib.Core.List.{List}
use Prim.Native.Nat.{ℕ, ◌+◌, ◌<◌}
use native.Mathlib.Omega.{arith}
use lib.IntN.{ℤ, pos}
use lib.ListN.{length, replicate, length-replicate, get_or-replicate}
use lib.Seq.{ext_get_or}
use Rattle.partners.specs.Partners.{nobody, new_truths, truths_of}
use Rattle.truths_in_place.specs.Table.{last_at, lasts_from, truths_in}
use Rattle.truths_in_place.proofs.Places.{lasts_long, last_at_lem}

zero_last : (k : ℕ) → k < 256 → last_at (replicate 768 (pos 0)) k ≡ nobody
unfolding last_at
zero_last k h = rw (get_or-replicate {A = ℤ} 768 (k + 256) (pos 0) (pos 0) (omega arith)) refl

zero_lasts : lasts_from (replicate 768 (pos 0)) 0 256 ≡ replicate 256 nobody
zero_lasts =
    let n = lasts_long (replicate 768 (pos 0)) in
    ext_get_or nobody (lasts_from (replicate 768 (pos 0)) 0 256) (replicate 256 nobody) (n ∙ sym (length-replicate 256 nobody))
    (λ (i : ℕ) (h : i < length (lasts_from (replicate 768 (pos 0)) 0 256)).
    (let l : i < 256 = omega arith in last_at_lem (replicate 768 (pos 0)) i l ∙ (zero_last i l ∙ sym (get_or-replicate {A = Option ℤ} 256 i nobody nobody l))))

pub new_table : truths_in (replicate 768 (pos 0)) 0 ≡ new_truths
new_table = ap (λ (l : List (Option ℤ)). truths_of (replicate 256 (pos 0)) l 0) zero_lasts
