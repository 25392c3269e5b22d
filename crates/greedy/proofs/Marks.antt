-- Places that are marked one after the other, each free when its turn comes: how many are marked then, and that with those left
-- each place is named once. Assumes nothing.
use mathlib.Core.Path.{◌≡◌, refl, sym, ap, ◌∙◌, subst}
use mathlib.Core.Bool.{Bool, true, false, not}
use mathlib.Core.List.{List, [], ◌∷◌, ◌++◌}
use mathlib.Core.Logic.{◌⊎◌, inl, inr}
use Prim.Native.Nat.{ℕ, zero, suc, ◌+◌, ◌<◌, ◌≤◌}
use native.Mathlib.Omega.{arith}
use native.Mathlib.Nat.{le_of_suc-le-suc, not-suc-le-zero}
use lib.ListN.{length, get_or, set, length-set, take}
use lib.Seq.{get_or-set_same, get_or-set_other, take-suc, take-length}
use Rattle.square.specs.Index.{count, gather, Once, on}
use Rattle.square.proofs.Truth.{dec, not_both, not_of_true}
use Rattle.square.proofs.Index.{eq-or-not, off}
use Rattle.square.proofs.Count.{count_more, count_none, count-not}
use Rattle.square.proofs.Gather.{gather_yes, gather_none, gather-length, once}
use Rattle.sorting.specs.Order.{Each}
use Rattle.sorting.proofs.Permutes.{each_at}
use Rattle.greedy.specs.Greedy.{marked, none, left_of}

-- each place of l is free when its turn comes
abbrev pub Fresh : List ℕ → List Bool → Type 0
Fresh [] m = Unit {0}
Fresh (i ∷ l) m = (i < length m) × (on m i ≡ false) × Fresh l (set m i true)

pub marked_more : (l : List ℕ) (i : ℕ) (m : List Bool) → marked (l ++ (i ∷ [])) m ≡ set (marked l m) i true
unfolding marked
marked_more [] i m = refl
marked_more (j ∷ l) i m = marked_more l i (set m j true)

pub marked-length : (l : List ℕ) (m : List Bool) → length (marked l m) ≡ length m
unfolding marked
marked-length [] m = refl
marked-length (i ∷ l) m = marked-length l (set m i true) ∙ length-set m i true

-- ---- how many
pub marked-count : (n : ℕ) (l : List ℕ) (m : List Bool) → Fresh l m → Each (λ i. i < n) l → count n (on (marked l m)) ≡ length l + count n (on m)
unfolding marked
marked-count n [] m f e = omega arith
marked-count n (i ∷ l) m f e =
    let a = marked-count n l (set m i true) f.2 e.1 in
    let b = count_more n (on m) (on (set m i true)) i e.0 f.1 (get_or-set_same m i true false f.0) (λ j h q. sym (get_or-set_other m i j true false q)) in
    omega arith

-- ---- marked and named are the same
stays : (l : List ℕ) (m : List Bool) (j : ℕ) → on m j ≡ true → on (marked l m) j ≡ true
unfolding marked
stays [] m j h = h
stays (i ∷ l) m j h = stays l (set m i true) j (kept (eq-or-not j i))
  where
    inside : (m : List Bool) (j : ℕ) → on m j ≡ true → j < length m
    inside [] j h = absurd (let z : ◌≡◌ {A = ℕ} 0 1 = cc in omega arith)
    inside (b ∷ m) zero h = omega arith
    inside (b ∷ m) (suc j) h = let k = inside m j h in omega arith

    kept : (j ≡ i) ⊎ (j ≡ i → ⊥) → on (set m i true) j ≡ true
    kept (inl q) = subst (λ (k : ℕ). on (set m i true) k ≡ true) (sym q) (get_or-set_same m i true false (subst (λ (k : ℕ). k < length m) q (inside m j h)))
    kept (inr q) = get_or-set_other m i j true false q ∙ h

named_marked : (l : List ℕ) (m : List Bool) (t : ℕ) → Fresh l m → t < length l → on (marked l m) (get_or l t 0) ≡ true
unfolding marked
named_marked [] m t f h = absurd (not-suc-le-zero h)
named_marked (i ∷ l) m zero f h = stays l (set m i true) i (get_or-set_same m i true false f.0)
named_marked (i ∷ l) m (suc t) f h = named_marked l (set m i true) t f.2 (le_of_suc-le-suc h)

abbrev Named : List ℕ → ℕ → Type 0
Named l j = (t : ℕ) × (t < length l) × (get_or l t 0 ≡ j)

marked_named : (l : List ℕ) (m : List Bool) (j : ℕ) → on (marked l m) j ≡ true → (on m j ≡ true) ⊎ Named l j
unfolding marked
marked_named [] m j h = inl h
marked_named (i ∷ l) m j h = go (marked_named l (set m i true) j h) (eq-or-not j i)
  where
    go : (on (set m i true) j ≡ true) ⊎ Named l j → (j ≡ i) ⊎ (j ≡ i → ⊥) → (on m j ≡ true) ⊎ Named (i ∷ l) j
    go (inr x) q = inr (suc x.0, (let h = x.1 in let z : suc x.0 < suc (length l) = omega arith in z), x.2)
    go (inl x) (inl q) = inr (0, (let z : 0 < suc (length l) = omega arith in z), sym q)
    go (inl x) (inr q) = inl (sym (get_or-set_other m i j true false q) ∙ x)

-- ---- none twice
not_again : (l : List ℕ) (m : List Bool) (t i : ℕ) → Fresh l m → on m i ≡ true → t < length l → get_or l t 0 ≡ i → ⊥
unfolding marked
not_again [] m t i f h k q = not-suc-le-zero k
not_again (j ∷ l) m zero i f h k q = let z : ◌≡◌ {A = ℕ} 0 1 = not_both (on m i) h (subst (λ (x : ℕ). on m x ≡ false) q f.1) in omega arith
not_again (j ∷ l) m (suc t) i f h k q = not_again l (set m j true) t i f.2 (stays (j ∷ []) m i h) (le_of_suc-le-suc k) q

one : (l : List ℕ) (m : List Bool) → Fresh l m → (t t' : ℕ) → t < length l → t' < length l → get_or l t 0 ≡ get_or l t' 0 → t ≡ t'
one [] m f t t' h h' q = absurd (not-suc-le-zero h)
one (i ∷ l) m f zero zero h h' q = refl
one (i ∷ l) m f zero (suc t') h h' q = absurd (not_again l (set m i true) t' i f.2 (get_or-set_same m i true false f.0) (le_of_suc-le-suc h') (sym q))
one (i ∷ l) m f (suc t) zero h h' q = absurd (not_again l (set m i true) t i f.2 (get_or-set_same m i true false f.0) (le_of_suc-le-suc h) q)
one (i ∷ l) m f (suc t) (suc t') h h' q = ap suc (one l (set m i true) f.2 t t' (le_of_suc-le-suc h) (le_of_suc-le-suc h') q)

-- ---- from no mark on
-- a list, gathered
pub gather_all : (l : List ℕ) → gather (length l) (λ i. true) (λ t. get_or l t 0) ≡ l
gather_all l = upto (length l) (let z : length l ≤ length l = omega arith in z) ∙ take-length l
  where
    upto : (k : ℕ) → k ≤ length l → gather k (λ i. true) (λ t. get_or l t 0) ≡ take k l
    upto zero h = gather_none (λ i. true) (λ t. get_or l t 0)
    upto (suc k) h =
        gather_yes (λ i. true) (λ t. get_or l t 0) k refl ∙ ap (λ (x : List ℕ). x ++ (get_or l k 0 ∷ [])) (upto k (let z : k ≤ length l = omega arith in z)) ∙ sym (take-suc l k 0 h)

module _ (n : ℕ) (l : List ℕ) (f : Fresh l none) (e : Each (λ i. i < n) l) where
  pub counted : count n (on (marked l none)) ≡ length l
  counted = let a = marked-count n l none f e in let b = count_none n (on none) (λ i h. off 64 i) in omega arith

  -- with those left they are n
  pub in_all : length l + length (left_of n (marked l none)) ≡ n
  in_all =
      let a = counted in
      let b = gather-length (λ i. not (on (marked l none) i)) (λ i. i) n in
      let c = count-not n (on (marked l none)) in
      omega arith

  -- EACH ONCE: every place below n stands in l or is left, once, and nothing else does
  pub each_once : Once n (l ++ left_of n (marked l none))
  each_once = subst (λ (x : List ℕ). Once n (x ++ left_of n (marked l none))) (gather_all l)
      (once (length l) n (λ i. true) (λ t. get_or l t 0) (λ i. not (on (marked l none) i))
      (λ t h p. each_at (λ i. i < n) l t e h)
      (λ t t' h h' p p' q. one l none f t t' h h' q)
      (λ j h p. covered j (dec (on (marked l none) j)) p)
      (λ t h p. not_of_true (named_marked l none t f h)))
    where
      found : (j : ℕ) → (on none j ≡ true) ⊎ Named l j → (t : ℕ) × (t < length l) × (true ≡ true) × (get_or l t 0 ≡ j)
      found j (inl q) = not_both (on none j) q (off 64 j)
      found j (inr x) = (x.0, x.1, refl, x.2)

      covered : (j : ℕ) → (on (marked l none) j ≡ true) ⊎ (on (marked l none) j ≡ false) → not (on (marked l none) j) ≡ false
          → (t : ℕ) × (t < length l) × (true ≡ true) × (get_or l t 0 ≡ j)
      covered j (inl q) p = found j (marked_named l none j q)
      covered j (inr q) p = not_both (not (on (marked l none) j)) (ap not q) p
