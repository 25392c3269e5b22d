-- Three runs in a row, by one number: the first by its own numbers, the others by what stands in two lists. Assumes nothing.
use mathlib.Core.Path.{◌≡◌, refl, sym, ap, ◌∙◌}
use mathlib.Core.Bool.{true, cond}
use mathlib.Core.List.{List, [], ◌∷◌, ◌++◌, map, append_assoc, append-nil}
use Prim.Native.Nat.{ℕ, zero, suc, ◌+◌, ◌-◌, ◌<◌}
use native.Mathlib.Omega.{arith}
use native.Mathlib.Nat.{add-zero, add-suc, add-sub_cancel_left}
use borrow.Author.Tests.{lt-ltb, le-ltb}
use lib.Dec.{ltb}
use lib.ListN.{length, get_or, replicate, get_or-append}
use Rattle.square.specs.Index.{gather, filled}
use Rattle.square.proofs.Gather.{gather_yes, gather_none, gather-map, gather-length}
use Rattle.square.proofs.Count.{count_all}
use Rattle.greedy.proofs.Marks.{gather_all}

module _ {A : Type 0} where
  -- f of each of 0, 1, .., k - 1
  abbrev pub each_of : ℕ → (ℕ → A) → List A
  each_of k f = gather k (λ i. true) f

  pub each_none : (f : ℕ → A) → each_of 0 f ≡ []
  each_none f = gather_none (λ i. true) f

  pub each_more : (k : ℕ) (f : ℕ → A) → each_of (suc k) f ≡ each_of k f ++ (f k ∷ [])
  each_more k f = gather_yes (λ i. true) f k refl

  pub each_length : (k : ℕ) (f : ℕ → A) → length (each_of k f) ≡ k
  each_length k f = gather-length (λ i. true) f k ∙ count_all k (λ i. true) (λ i h. refl)

  pub each_same : (k : ℕ) (f g : ℕ → A) → ((i : ℕ) → i < k → f i ≡ g i) → each_of k f ≡ each_of k g
  each_same zero f g h = each_none f ∙ sym (each_none g)
  each_same (suc k) f g h =
      let a = each_same k f g (λ i l. h i (omega arith)) in
      let b = h k (omega arith) in
      each_more k f ∙ rw (a, b) refl ∙ sym (each_more k g)

  -- one run behind the other
  each_split : (a b : ℕ) (f : ℕ → A) → each_of (a + b) f ≡ each_of a f ++ each_of b (λ i. f (a + i))
  each_split a zero f = rw (add-zero a, each_none (λ i. f (a + i))) (sym (append-nil (each_of a f)))
  each_split a (suc b) f =
      rw (add-suc a b, each_more (a + b) f, each_split a b f, each_more b (λ i. f (a + i))) (append_assoc (each_of a f) (each_of b (λ i. f (a + i))) (f (a + b) ∷ []))

  -- what stands in a list
  pub each_of_lem : (l : List ℕ) (g : ℕ → A) → each_of (length l) (λ i. g (get_or l i 0)) ≡ map g l
  each_of_lem l g = sym (gather-map g (λ i. true) (λ i. get_or l i 0) (length l)) ∙ ap (map g) (gather_all l)

  module _ (M R C : ℕ → A) (used n w : ℕ) (L K : List ℕ) (eL : used + length L ≡ n) (eK : used + length K ≡ w) where
    abbrev pub pick : ℕ → A
    pick k = cond (ltb k used) (M k) (cond (ltb k n) (R (get_or (filled 0 L) (k - used) 0)) (C (get_or (filled 0 K) (k - n) 0)))

    in_filled : (l : List ℕ) (i : ℕ) → i < length l → get_or (filled 0 l) i 0 ≡ get_or l i 0
    in_filled l i h = get_or-append l (replicate (64 - length l) 0) 0 i h

    first : (i : ℕ) → i < used → pick i ≡ M i
    first i h = rw (lt-ltb i used h) refl

    second : (i : ℕ) → i < length L → pick (used + i) ≡ R (get_or L i 0)
    second i h =
        rw (le-ltb (used + i) used (omega arith), lt-ltb (used + i) n (omega arith), add-sub_cancel_left used i) (ap R (in_filled L i h))

    third : (j : ℕ) → j < length K → pick (used + (length L + j)) ≡ C (get_or K j 0)
    third j h =
        let e : used + (length L + j) ≡ n + j = omega arith in
        rw (e, le-ltb (n + j) used (omega arith), le-ltb (n + j) n (omega arith), add-sub_cancel_left n j) (ap C (in_filled K j h))

    pub in_a_row : each_of (n + w - used) pick ≡ each_of used M ++ (map R L ++ map C K)
    in_a_row =
        let e : n + w - used ≡ used + (length L + length K) = omega arith in
        let a = each_same used pick M first in
        let b = each_same (length L) (λ i. pick (used + i)) (λ i. R (get_or L i 0)) second ∙ each_of_lem L R in
        let c = each_same (length K) (λ j. pick (used + (length L + j))) (λ j. C (get_or K j 0)) third ∙ each_of_lem K C in
        rw e (each_split used (length L + length K) pick ∙ rw (a, each_split (length L) (length K) (λ i. pick (used + i)), b, c) refl)
