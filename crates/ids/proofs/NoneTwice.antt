-- That no id stands twice, read place by place, and one turn of the test's loop. Assumes nothing.
use mathlib.Core.Path.{◌≡◌, refl, sym, ap, ◌∙◌}
use mathlib.Core.Bool.{true, false, true≢false}
use mathlib.Core.List.{List, [], ◌∷◌}
use Prim.Native.Nat.{ℕ, zero, suc, ◌<◌, ◌+◌}
use native.Mathlib.Nat.{not-suc-le-zero, le_of_suc-le-suc}
use native.Mathlib.Numerals.{add-one}
use native.Mathlib.Omega.{arith}
use lib.IntN.{ℤ, pos}
use lib.ListN.{length, drop, get_or}
use lib.Seq.{drop-cons}
use Rattle.counts.specs.Counts.{same_id}
use Rattle.counts.proofs.Ids.{same_refl}
use Rattle.counts.proofs.Tests.{both}
use Rattle.ids.specs.Ids.{seek_of, is_absent, distinct_of}
use Rattle.ids.proofs.Lookups.{not_same, absent_reads, absent_is, absent_yes}

pub distinct_reads : (l : List ℤ) → distinct_of l ≡ true → (i j : ℕ) → i < j → j < length l → get_or l i (pos 0) ≡ get_or l j (pos 0) → ⊥
unfolding distinct_of
distinct_reads [] e i j p q s = absurd (not-suc-le-zero q)
distinct_reads (x ∷ xs) e i zero p q s = absurd (not-suc-le-zero p)
distinct_reads (x ∷ xs) e zero (suc j) p q s =
    let a = absent_reads 0 xs x (absent_yes (seek_of xs x) (both (is_absent (seek_of xs x)) (distinct_of xs) e).0) j (le_of_suc-le-suc q) in
    true≢false (sym (same_refl x) ∙ (ap (λ (z : ℤ). same_id z x) s ∙ a))
distinct_reads (x ∷ xs) e (suc i) (suc j) p q s =
    distinct_reads xs (both (is_absent (seek_of xs x)) (distinct_of xs) e).1 i j (le_of_suc-le-suc p) (le_of_suc-le-suc q) s

pub distinct_is : (l : List ℤ) → ((i j : ℕ) → i < j → j < length l → get_or l i (pos 0) ≡ get_or l j (pos 0) → ⊥) → distinct_of l ≡ true
unfolding distinct_of
distinct_is [] f = refl
distinct_is (x ∷ xs) f =
    let away : (j : ℕ) → j < length xs → same_id (get_or xs j (pos 0)) x ≡ false =
    λ j h. not_same (get_or xs j (pos 0)) x (λ s. f 0 (suc j) (omega arith) (omega arith) (sym s)) (same_id (get_or xs j (pos 0)) x) refl in
    rw (absent_is 0 xs x away) (distinct_is xs (λ (i j : ℕ) (p : i < j) (q : j < length xs). f (suc i) (suc j) (omega arith) (omega arith)))

-- ---- one turn of the loop
module _ (ids : List ℤ) (i : ℕ) (h : i < length ids) where
  rest : drop i ids ≡ get_or ids i (pos 0) ∷ drop (i + 1) ids
  rest = rw (add-one i) (drop-cons ids i (pos 0) h)

  pub twice : is_absent (seek_of (drop (i + 1) ids) (get_or ids i (pos 0))) ≡ false → distinct_of (drop i ids) ≡ false
  unfolding distinct_of
  twice e = rw (rest, e)

  pub once : is_absent (seek_of (drop (i + 1) ids) (get_or ids i (pos 0))) ≡ true → distinct_of (drop i ids) ≡ distinct_of (drop (i + 1) ids)
  unfolding distinct_of
  once e = rw (rest, e)
