-- Step D's marks of the free rows: the loop's invariant. Assumes nothing.
use Prim.Native.Nat.{ℕ, suc, ◌+◌, ◌<◌, ◌≤◌}
use mathlib.Core.Path.{◌≡◌, sym, ap, ◌∙◌}
use mathlib.Core.Bool.{Bool, true, false, true≢false, not, ◌&&◌}
use mathlib.Core.List.{List, [], ◌∷◌}
use mathlib.Core.Logic.{⊎_elim}
use native.Mathlib.Omega.{arith}
use lib.ListN.{length, get_or, set, take}
use lib.Dec.{leb, ltb}
use lib.Seq.{get_or-take, length-take-le, get_or-set_same, get_or-set_other}
use borrow.Author.Tests.{lt-ltb, le-ltb, le-leb, lt-leb}
use Rattle.std.specs.List.{list_all}
use Rattle.std.proofs.lemmas.List.Folds.{list_all_at}
use Rattle.square.specs.Index.{on}
use Rattle.square.proofs.Index.{below_more, lt-or-ge}
use Rattle.square.proofs.Truth.{dec, not_of_true, not_of_false}
use Rattle.paths.specs.State.{paired}

-- the first i rows are marked where they are free
abbrev pub Marks : ℕ → List ℕ → List Bool → ℕ → Type 0
Marks n rows F i = (k : ℕ) → k < i → on F k ≡ not (paired n rows k)

pub marks_more : (n : ℕ) (rows : List ℕ) (F : List Bool) (i : ℕ) → i < length F → Marks n rows F i → Marks n rows (set F i (leb n (get_or rows i 0))) (i + 1)
marks_more n rows F i l v k lk = below_more i (λ k. on (set F i (leb n (get_or rows i 0))) k ≡ not (paired n rows k))
    (λ k lk. get_or-set_other F i k (leb n (get_or rows i 0)) false (λ q. omega arith) ∙ v k lk)
    (get_or-set_same F i (leb n (get_or rows i 0)) false l ∙ here) k (omega arith)
  where
    here : leb n (get_or rows i 0) ≡ not (paired n rows i)
    here = ⊎_elim
        (λ (lt : get_or rows i 0 < n). lt-leb n (get_or rows i 0) lt ∙ sym (not_of_true (lt-ltb (get_or rows i 0) n lt)))
        (λ (le : n ≤ get_or rows i 0). le-leb n (get_or rows i 0) le ∙ sym (not_of_false (le-ltb (get_or rows i 0) n le)))
        (lt-or-ge (get_or rows i 0) n)

-- the test of all rows
fails : (p : ℕ → Bool) (xs : List ℕ) → list_all p xs ≡ false → (i : ℕ) × (i < length xs) × (p (get_or xs i 0) ≡ false)
fails p [] e = absurd (true≢false e)
fails p (x ∷ xs) e = ⊎_elim
    (λ (t : p x ≡ true). let w = fails p xs (and_true_left (p x) (list_all p xs) t e) in (suc w.0, omega (arith, w.1), w.2))
    (λ (f : p x ≡ false). (0, omega arith, f))
    (dec (p x))
  where
    and_true_left : (a b : Bool) → a ≡ true → (a && b) ≡ false → b ≡ false
    and_true_left true b t e = e
    and_true_left false b t e = absurd (true≢false (sym t))

module _ (n : ℕ) (rows : List ℕ) (le : n ≤ length rows) where
  pub one_is_not : list_all (λ partner. ltb partner n) (take n rows) ≡ false → (i : ℕ) × (i < n) × (paired n rows i ≡ false)
  one_is_not e =
      let w = fails (λ partner. ltb partner n) (take n rows) e in
      let l : w.0 < n = omega (arith, w.1, length-take-le n rows le) in
      (w.0, l, ap (λ (partner : ℕ). ltb partner n) (sym (get_or-take n rows w.0 0 l)) ∙ w.2)

  pub all_are : list_all (λ partner. ltb partner n) (take n rows) ≡ true → (i : ℕ) → i < n → paired n rows i ≡ true
  all_are e i l = ⊎_elim
      (λ (t : paired n rows i ≡ true). t)
      (λ (f : paired n rows i ≡ false). absurd (true≢false (sym e ∙ list_all_at (λ partner. ltb partner n) (take n rows) i 0 (omega (arith, length-take-le n rows le))
      (ap (λ (partner : ℕ). ltb partner n) (get_or-take n rows i 0 l) ∙ f))))
      (dec (paired n rows i))
