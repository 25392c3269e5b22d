-- What a lookup finds, step by step, and what it says. Assumes nothing.
use mathlib.Core.Path.{◌≡◌, refl, sym, ap, ◌∙◌}
use mathlib.Core.Bool.{Bool, true, false, cond, true≢false}
use mathlib.Core.List.{List, [], ◌∷◌}
use Prim.Native.Nat.{ℕ, zero, suc, ◌<◌, ◌+◌}
use native.Mathlib.Omega.{arith}
use native.Mathlib.Nat.{not-suc-le-zero, le_of_suc-le-suc}
use lib.IntN.{ℤ, pos}
use lib.ListN.{length, get_or}
use Rattle.counts.specs.Counts.{same_id}
use Rattle.counts.proofs.Ids.{same_eq, same_refl}
use Rattle.ids.specs.declared.Lookup.{Lookup}
use Rattle.ids.specs.declared.Lookup.TheVariants.{At, Absent}
use Rattle.ids.specs.Ids.{seek_from, is_absent}

-- ---- ids that differ don't pass for the same
pub not_same : (a b : ℤ) → (a ≡ b → ⊥) → (t : Bool) → same_id a b ≡ t → same_id a b ≡ false
not_same a b n true e = absurd (n (same_eq a b e))
not_same a b n false e = e

-- ---- the first place that holds the id is the one that is found
first_from : (i : ℕ) (l : List ℤ) (id : ℤ) (k : ℕ) → k < length l → get_or l k (pos 0) ≡ id → ((j : ℕ) → j < k → get_or l j (pos 0) ≡ id → ⊥)
    → seek_from i l id ≡ At (i + k)
unfolding seek_from
first_from i [] id k h e f = absurd (not-suc-le-zero h)
first_from i (x ∷ xs) id zero h e f = rw (e, same_refl id) (ap At (omega arith))
first_from i (x ∷ xs) id (suc k) h e f =
    rw (not_same x id (f 0 (omega arith)) (same_id x id) refl)
    (first_from (suc i) xs id k (omega arith) e (λ (j : ℕ) (g : j < k). f (suc j) (omega arith)) ∙ ap At (omega arith))

pub first_at : (l : List ℤ) (id : ℤ) (k : ℕ) → k < length l → get_or l k (pos 0) ≡ id → ((j : ℕ) → j < k → get_or l j (pos 0) ≡ id → ⊥) → seek_from 0 l id ≡ At k
first_at l id k h e f = first_from 0 l id k h e f ∙ ap At (omega arith)

-- ---- a place that is found is one of the list's
found_from : (b : Bool) (i k n : ℕ) (r : Lookup) → (r ≡ At k → k < suc i + n) → cond b (At i) r ≡ At k → k < i + suc n
found_from true i k n r f q = let z : i ≡ k = cc in omega arith
found_from false i k n r f q = let z = f q in omega arith

pub found_below : (i : ℕ) (l : List ℤ) (id : ℤ) (k : ℕ) → seek_from i l id ≡ At k → k < i + length l
unfolding seek_from
found_below i [] id k e = let z : ◌≡◌ {A = ℕ} 0 1 = cc in absurd (omega arith)
found_below i (x ∷ xs) id k e = found_from (same_id x id) i k (length xs) (seek_from (suc i) xs id) (found_below (suc i) xs id k) e

-- ---- an id is absent exactly where no place holds it
at_not_absent : (b : Bool) (i : ℕ) (r : Lookup) → cond b (At i) r ≡ Absent → (b ≡ false) × (r ≡ Absent)
at_not_absent true i r e = let z : ◌≡◌ {A = ℕ} 0 1 = cc in absurd (omega arith)
at_not_absent false i r e = (refl, e)

pub absent_reads : (i : ℕ) (l : List ℤ) (id : ℤ) → seek_from i l id ≡ Absent → (j : ℕ) → j < length l → same_id (get_or l j (pos 0)) id ≡ false
unfolding seek_from
absent_reads i [] id e j h = absurd (not-suc-le-zero h)
absent_reads i (x ∷ xs) id e zero h = (at_not_absent (same_id x id) i (seek_from (suc i) xs id) e).0
absent_reads i (x ∷ xs) id e (suc j) h =
    absent_reads (suc i) xs id (at_not_absent (same_id x id) i (seek_from (suc i) xs id) e).1 j (le_of_suc-le-suc h)

pub absent_is : (i : ℕ) (l : List ℤ) (id : ℤ) → ((j : ℕ) → j < length l → same_id (get_or l j (pos 0)) id ≡ false) → seek_from i l id ≡ Absent
unfolding seek_from
absent_is i [] id f = refl
absent_is i (x ∷ xs) id f = rw (f 0 (omega arith)) (absent_is (suc i) xs id (λ (j : ℕ) (h : j < length xs). f (suc j) (omega arith)))

pub none_at : (l : List ℤ) (id : ℤ) → ((j : ℕ) → j < length l → get_or l j (pos 0) ≡ id → ⊥) → seek_from 0 l id ≡ Absent
none_at l id f = absent_is 0 l id (λ (j : ℕ) (h : j < length l). not_same (get_or l j (pos 0)) id (f j h) (same_id (get_or l j (pos 0)) id) refl)

pub absent_yes : (r : Lookup) → is_absent r ≡ true → r ≡ Absent
absent_yes (At k) e = absurd (true≢false (sym e))
absent_yes Absent e = refl
