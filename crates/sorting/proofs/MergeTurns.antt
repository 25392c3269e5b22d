-- The turns of merging, and the parts of a run. Assumes nothing.
use mathlib.Core.Path.{◌≡◌, refl, ap, ◌∙◌}
use mathlib.Core.Bool.{true, false, not, true≢false, false≢true}
use mathlib.Core.List.{List, [], ◌∷◌}
use Prim.Native.Nat.{ℕ, suc, ◌+◌, ◌<◌, ◌≤◌, ◌-◌}
use native.Mathlib.Omega.{arith}
use native.Mathlib.Numerals.{add-one}
use native.Mathlib.Nat.{add-zero}
use lib.ListN.{length, get_or, set, take, drop, length-drop, length-set}
use lib.Seq.{sets, take_all, length-take-le, drop-length, get_or-drop, drop-drop}
use lib.Ieee.{Float, lt}
use borrow.Author.Tests.{not-true, not-false}
use Rattle.std.specs.Prelude.{None, Some, slice_get}
use Rattle.sorting.specs.Order.{key_of}
use Rattle.sorting.specs.Steps.{merge_of, first_next}

module _ (keys : List Float) where
  first_next_lem : (a b : List ℕ) → first_next keys a b ≡ true → (0 < length a) × (merge_of keys a b ≡ get_or a 0 0 ∷ merge_of keys (drop 1 a) b)
  unfolding merge_of first_next
  first_next_lem [] b e = absurd (false≢true e)
  first_next_lem (p ∷ []) [] e = (omega arith, refl)
  first_next_lem (p ∷ (r ∷ a)) [] e = (omega arith, refl)
  first_next_lem (p ∷ a) (q ∷ b) e = (omega arith, rw (not-true (lt (key_of keys q) (key_of keys p)) e) refl)

  second_next : (a b : List ℕ) → first_next keys a b ≡ false → 0 < length a + length b → (0 < length b) × (merge_of keys a b ≡ get_or b 0 0 ∷ merge_of keys a (drop 1 b))
  unfolding merge_of first_next
  second_next [] [] e h = absurd (let z : ⊥ = omega arith in z)
  second_next [] (q ∷ b) e h = (omega arith, refl)
  second_next (p ∷ a) [] e h = absurd (true≢false e)
  second_next (p ∷ a) (q ∷ b) e h = (omega arith, rw (not-false (lt (key_of keys q) (key_of keys p)) e) refl)

  -- the code's test, by the first entry of each run
  pub no_first : (a b : List ℕ) → None ≡ slice_get a 0 → false ≡ first_next keys a b
  unfolding first_next
  no_first [] b e = refl
  no_first (p ∷ a) b e = cc

  pub no_second : (a b : List ℕ) (p : ℕ) → Some p ≡ slice_get a 0 → None ≡ slice_get b 0 → true ≡ first_next keys a b
  unfolding first_next
  no_second [] b p e f = cc
  no_second (q ∷ a) [] p e f = refl
  no_second (q ∷ a) (r ∷ b) p e f = cc

  pub both_there : (a b : List ℕ) (p q : ℕ) (x y : Float) → Some p ≡ slice_get a 0 → Some q ≡ slice_get b 0 → y ≡ key_of keys q → x ≡ key_of keys p → not (lt y x) ≡ first_next keys a b
  unfolding first_next
  both_there [] b p q x y e f ey ex = cc
  both_there (r ∷ a) [] p q x y e f ey ex = cc
  both_there (r ∷ a) (s ∷ b) p q x y e f ey ex = let g : p ≡ r = cc in let h : q ≡ s = cc in rw (ey, ex, g, h) refl

  -- what the loop keeps
  abbrev pub Merging : List ℕ → List ℕ → List ℕ → List ℕ → ℕ → ℕ → ℕ → Type 0
  Merging a b out₀ out i j k =
      (i ≤ length a) × (j ≤ length b) × (k ≡ i + j) × (length out ≡ length out₀) × (sets out k (merge_of keys (drop i a) (drop j b)) ≡ sets out₀ 0 (merge_of keys a b))

  module _ (a b out₀ out : List ℕ) (i j k : ℕ) (p : Merging a b out₀ out i j k) where
    pub first_index : first_next keys (drop i a) (drop j b) ≡ true → i < length a
    first_index e = let f = (first_next_lem (drop i a) (drop j b) e).0 in let g = length-drop i a in omega arith

    pub second_index : first_next keys (drop i a) (drop j b) ≡ false → k < length a + length b → j < length b
    second_index e h =
        let ga = length-drop i a in
        let gb = length-drop j b in
        let x = p.0 in
        let y = p.1 in
        let z = p.2 in
        let f = (second_next (drop i a) (drop j b) e (let u : 0 < length (drop i a) + length (drop j b) = omega arith in u)).0 in
        omega arith

    pub takes_first : (out' : List ℕ) (i' j' : ℕ) → first_next keys (drop i a) (drop j b) ≡ true → out' ≡ set out k (get_or a i 0) → i' ≡ i + 1 → j' ≡ j → Merging a b out₀ out' i' j' (k + 1)
    takes_first out' i' j' e eo ei ej =
        let x = p.0 in
        let y = p.1 in
        let z = p.2 in
        let h = first_index e in
        let m : merge_of keys (drop i a) (drop j b) ≡ get_or a i 0 ∷ merge_of keys (drop (i + 1) a) (drop j b) =
        (first_next_lem (drop i a) (drop j b) e).1 ∙ rw (get_or-drop i a 0 0, add-zero i, drop-drop 1 i a) refl in
        let q : sets (set out k (get_or a i 0)) (suc k) (merge_of keys (drop (i + 1) a) (drop j b)) ≡ sets out₀ 0 (merge_of keys a b) = rw m at p.4 in
        rw (eo, ei, ej) (omega arith, y, omega arith, length-set out k (get_or a i 0) ∙ p.3, rw (add-one k) q)

    pub takes_second : (out' : List ℕ) (i' j' : ℕ) → first_next keys (drop i a) (drop j b) ≡ false → k < length a + length b → out' ≡ set out k (get_or b j 0) → i' ≡ i → j' ≡ j + 1 → Merging a b out₀ out' i' j' (k + 1)
    takes_second out' i' j' e l eo ei ej =
        let x = p.0 in
        let y = p.1 in
        let z = p.2 in
        let h = second_index e l in
        let ga = length-drop i a in
        let gb = length-drop j b in
        let m : merge_of keys (drop i a) (drop j b) ≡ get_or b j 0 ∷ merge_of keys (drop i a) (drop (j + 1) b) =
        (second_next (drop i a) (drop j b) e (let u : 0 < length (drop i a) + length (drop j b) = omega arith in u)).1 ∙ rw (get_or-drop j b 0 0, add-zero j, drop-drop 1 j b) refl in
        let q : sets (set out k (get_or b j 0)) (suc k) (merge_of keys (drop i a) (drop (j + 1) b)) ≡ sets out₀ 0 (merge_of keys a b) = rw m at p.4 in
        rw (eo, ei, ej) (x, omega arith, omega arith, length-set out k (get_or b j 0) ∙ p.3, rw (add-one k) q)

    pub all_merged : k ≡ length a + length b → out ≡ sets out₀ 0 (merge_of keys a b)
    unfolding merge_of
    all_merged e =
        let x = p.0 in
        let y = p.1 in
        let z = p.2 in
        let ei : i ≡ length a = omega arith in
        let ej : j ≡ length b = omega arith in
        let da : drop i a ≡ [] = ap (λ (n : ℕ). drop n a) ei ∙ drop-length a in
        let db : drop j b ≡ [] = ap (λ (n : ℕ). drop n b) ej ∙ drop-length b in
        rw (da, db) at p.4

  pub merge_starts : (a b out : List ℕ) → Merging a b out out 0 0 0
  merge_starts a b out = (omega arith, omega arith, refl, refl, refl)

-- ---- the parts of a run
-- the part of a run from m on
pub tail_part : (m : ℕ) (l : List ℕ) → take (length l - m) (drop m l) ≡ drop m l
tail_part m l = take_all (length l - m) (drop m l) (let e = length-drop m l in let z : length (drop m l) ≤ length l - m = omega arith in z)

pub parts_fit : (m o : ℕ) (l : List ℕ) → m ≤ length l → length l ≤ o → length (take m l) + length (take (length l - m) (drop m l)) ≤ o
parts_fit m o l h g =
    let a = length-take-le m l h in
    let b = ap length (tail_part m l) ∙ length-drop m l in
    omega arith
