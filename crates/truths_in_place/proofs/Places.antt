-- The table that a run stands for, place by place, and with one place written. Assumes nothing.
use Rattle.std.specs.Prelude.{Option}
use mathlib.Core.Path.{◌≡◌, refl, sym, ap, ◌∙◌}
use mathlib.Core.Bool.{Bool, true, false}
use mathlib.Core.List.{List, [], ◌∷◌}
use Prim.Native.Nat.{ℕ, zero, suc, ◌+◌, ◌%◌, ◌<◌}
use native.Mathlib.Nat.{mod-eq_of_lt}
use native.Mathlib.Omega.{arith}
use borrow.Author.Tests.{eqb-true, eqb-false}
use lib.Dec.{eqb}
use lib.IntN.{ℤ, pos}
use lib.ListN.{length, get_or, set, take, length-set}
use lib.Seq.{ext_get_or, get_or-set_same, get_or-set_other, take-set-le, take-set-lt}
use Rattle.columns.specs.Columns.{put_all}
use Rattle.columns.proofs.Runs.{read_all, fits_up_to, all_other, all_same}
use Rattle.partners.specs.Partners.{nobody}
use Rattle.truths_in_place.specs.Table.{last_from, last_at, lasts_from}

-- ---- the partners that a run stands for
abbrev pub lasts_in : List ℤ → List (Option ℤ)
lasts_in table = lasts_from table 0 256

from_long : (n : ℕ) (table : List ℤ) (i : ℕ) → length (lasts_from table i n) ≡ n
unfolding lasts_from
from_long zero table i = refl
from_long (suc n) table i = ap suc (from_long n table (suc i))

from_at : (n : ℕ) (table : List ℤ) (i k j : ℕ) → k < n → j ≡ i + k → get_or (lasts_from table i n) k nobody ≡ last_at table j
unfolding lasts_from
from_at zero table i k j h e = absurd (omega arith)
from_at (suc n) table i zero j h e = ap (last_at table) (let q : i ≡ j = omega arith in q)
from_at (suc n) table i (suc k) j h e = from_at n table (suc i) k j (omega arith) (omega arith)

pub lasts_long : (table : List ℤ) → length (lasts_in table) ≡ 256
lasts_long table = from_long 256 table 0

pub last_at_lem : (table : List ℤ) (k : ℕ) → k < 256 → get_or (lasts_in table) k nobody ≡ last_at table k
last_at_lem table k h = from_at 256 table 0 k k h (omega arith)

-- ---- one place written
abbrev last_of_three : List ℤ → Option ℤ
last_of_three l = last_from (get_or l 1 (pos 0)) (get_or l 2 (pos 0))

of_three : (table : List ℤ) (k : ℕ) → last_at table k ≡ last_of_three (read_all table 256 k 3)
unfolding last_at
of_three table k = refl

module _ (table : List ℤ) (l : length table ≡ 768) (k : ℕ) (h : k < 256) (id known partner : ℤ) where
  abbrev three : List ℤ
  three = id ∷ (known ∷ (partner ∷ []))

  abbrev after : List ℤ
  after = put_all table 256 k three

  pub put_long : length after ≡ 768
  put_long = length-set (set (set table k id) (k + 256) known) (k + 256 + 256) partner ∙ (length-set (set table k id) (k + 256) known ∙ (length-set table k id ∙ l))

  pub put_id : take 256 after ≡ set (take 256 table) k id
  put_id =
      take-set-le 256 (set (set table k id) (k + 256) known) (k + 256 + 256) partner (omega arith)
      ∙ (take-set-le 256 (set table k id) (k + 256) known (omega arith) ∙ take-set-lt 256 table k id h)

  at_same : last_at after k ≡ last_from known partner
  at_same =
      of_three after k
      ∙ ap last_of_three (all_same three table 256 k (let g : 0 < 256 = omega arith in g) (fits_up_to 2 (length table) 256 k (let g : k + 256 + 256 < length table = omega arith in g)))

  at_other : (i : ℕ) → i < 256 → (i ≡ k → ⊥) → last_at after i ≡ last_at table i
  at_other i q x =
      of_three after i
      ∙ (ap last_of_three (all_other 3 three table 256 k i (λ (e : i % 256 ≡ k % 256). x (sym (mod-eq_of_lt q) ∙ (e ∙ mod-eq_of_lt h)))) ∙ sym (of_three table i))

  by_place : (i : ℕ) → i < 256 → (b : Bool) → eqb i k ≡ b → get_or (lasts_in after) i nobody ≡ get_or (set (lasts_in table) k (last_from known partner)) i nobody
  by_place i q true e =
      let n = lasts_long table in
      let p = eqb-true i k e in
      ap (λ (j : ℕ). get_or (lasts_in after) j nobody) p
      ∙ (last_at_lem after k h ∙ (at_same
      ∙ (sym (get_or-set_same (lasts_in table) k (last_from known partner) nobody (omega arith)) ∙ sym (ap (λ (j : ℕ). get_or (set (lasts_in table) k (last_from known partner)) j nobody) p))))
  by_place i q false e =
      let y = eqb-false i k e in
      last_at_lem after i q ∙ (at_other i q y ∙ (sym (last_at_lem table i q) ∙ sym (get_or-set_other (lasts_in table) k i (last_from known partner) nobody y)))

  pub put_last : lasts_in after ≡ set (lasts_in table) k (last_from known partner)
  put_last =
      let n = lasts_long after in
      ext_get_or nobody (lasts_in after) (set (lasts_in table) k (last_from known partner)) (n ∙ sym (length-set (lasts_in table) k (last_from known partner) ∙ lasts_long table))
      (λ (i : ℕ) (q : i < length (lasts_in after)). by_place i (omega arith) (eqb i k) refl)
