-- A run sorted by halves: the front sorted, then the back, then the two merged. Assumes nothing.
use mathlib.Core.Path.{◌≡◌, sym, ap, ◌∙◌, subst}
use mathlib.Core.Bool.{false}
use mathlib.Core.List.{List, [], ◌∷◌, ◌++◌, append-nil}
use Prim.Native.Nat.{ℕ, zero, suc, ◌+◌, ◌≤◌, ◌-◌, ◌/◌}
use native.Mathlib.Omega.{arith}
use lib.ListN.{length, take, drop, take-append-drop, length-append, length-drop}
use lib.Seq.{take_at, drop_at, drop-drop, drop-length, length-take-le, sets, sets-eq}
use borrow.Rule.Slice.PartMut.{put_mid}
use lib.Ieee.{Float, is_nan}
use Rattle.sorting.specs.Order.{Each, Numbers, key_of}
use Rattle.sorting.specs.Sort.{sort_of}
use Rattle.sorting.specs.Steps.{merge_of}
use Rattle.sorting.proofs.Permutes.{as_long}
use Rattle.sorting.proofs.MergeTurns.{tail_part}
use Rattle.sorting.proofs.Merging.{merged}

pub half : (n : ℕ) → n / 2 ≤ n
half n = omega arith

each_take : (P : ℕ → Type 0) (m : ℕ) (l : List ℕ) → Each P l → Each P (take m l)
each_take P zero l e = tt
each_take P (suc m) [] e = tt
each_take P (suc m) (k ∷ l) e = (e.0, each_take P m l e.1)

each_drop : (P : ℕ → Type 0) (m : ℕ) (l : List ℕ) → Each P l → Each P (drop m l)
each_drop P zero l e = e
each_drop P (suc m) [] e = tt
each_drop P (suc m) (k ∷ l) e = each_drop P m l e.1

pub front_numbers : (keys : List Float) (m : ℕ) (l : List ℕ) → Numbers keys l → Numbers keys (take m l)
front_numbers keys m l n = each_take (λ k. is_nan (key_of keys k) ≡ false) m l n

pub back_numbers : (keys : List Float) (m : ℕ) (l : List ℕ) → Numbers keys l → Numbers keys (drop m l)
back_numbers keys m l n = each_drop (λ k. is_nan (key_of keys k) ≡ false) m l n

-- the two halves sorted, merged: the sort
pub halves : (keys : List Float) (m : ℕ) (l : List ℕ) → Numbers keys l → merge_of keys (sort_of keys (take m l)) (sort_of keys (drop m l)) ≡ sort_of keys l
halves keys m l n = merged keys (take m l) (drop m l) (front_numbers keys m l n) (back_numbers keys m l n) ∙ ap (sort_of keys) (take-append-drop m l)

-- ---- the code's steps, from the run L on: A is its front sorted, B its back

module _ (keys : List Float) (L A : List ℕ) (m : ℕ) (hm : m ≤ length L) (n : Numbers keys L) (eA : A ≡ sort_of keys (take m L)) where
  len_A : length A ≡ m
  len_A = ap length eA ∙ as_long keys (take m L) ∙ length-take-le m L hm

  pub len₁ : length (A ++ drop m L) ≡ length L
  len₁ = let a = len_A in let b = length-append A (drop m L) in let c = length-drop m L in omega arith

  pub rest_is : take (length (A ++ drop m L) - m) (drop m (A ++ drop m L)) ≡ drop m L
  rest_is = tail_part m (A ++ drop m L) ∙ drop_at A (drop m L) m len_A

  pub rest_numbers : Numbers keys (take (length (A ++ drop m L) - m) (drop m (A ++ drop m L)))
  rest_numbers = subst (Numbers keys) (sym rest_is) (back_numbers keys m L n)

  pub rest_length : length (take (length (A ++ drop m L) - m) (drop m (A ++ drop m L))) ≡ length L - m
  rest_length = ap length rest_is ∙ length-drop m L

  module _ (B : List ℕ) (eB : B ≡ sort_of keys (take (length (A ++ drop m L) - m) (drop m (A ++ drop m L)))) where
    B_is : B ≡ sort_of keys (drop m L)
    B_is = eB ∙ ap (sort_of keys) rest_is

    len_B : length B ≡ length L - m
    len_B = ap length B_is ∙ as_long keys (drop m L) ∙ length-drop m L

    pub whole : put_mid m (length (A ++ drop m L) - m) (A ++ drop m L) B ≡ A ++ B
    whole =
        let k = len₁ in
        let e : m + (length (A ++ drop m L) - m) ≡ length (A ++ drop m L) = omega arith in
        rw (take_at A (drop m L) m len_A) (ap (λ (l : List ℕ). A ++ (B ++ l)) (drop-drop (length (A ++ drop m L) - m) m (A ++ drop m L) ∙ ap (λ (i : ℕ). drop i (A ++ drop m L)) e ∙ drop-length (A ++ drop m L)) ∙ ap (λ (l : List ℕ). A ++ l) (append-nil B))

    pub len₂ : length (put_mid m (length (A ++ drop m L) - m) (A ++ drop m L) B) ≡ length L
    len₂ = ap length whole ∙ (let a = len_A in let b = len_B in let c = length-append A B in let z : length (A ++ B) ≡ length L = omega arith in z)

    pub merged_is : merge_of keys (take m (put_mid m (length (A ++ drop m L) - m) (A ++ drop m L) B)) (drop m (put_mid m (length (A ++ drop m L) - m) (A ++ drop m L) B)) ≡ sort_of keys L
    merged_is =
        ap (λ (l : List ℕ). merge_of keys (take m l) (drop m l)) whole ∙ rw (take_at A B m len_A, drop_at A B m len_A, eA, B_is) (halves keys m L n)

    -- the run as the code merges it
    abbrev both : List ℕ
    both = put_mid m (length (A ++ drop m L) - m) (A ++ drop m L) B

    pub ends : (S C O : List ℕ) → C ≡ sets S 0 (merge_of keys (take m both) (take (length both - m) (drop m both))) → length L ≤ length S → O ≡ take (length both) C → O ≡ sort_of keys L
    ends S C O eC h eO =
        let s : length (sort_of keys L) ≡ length L = as_long keys L in
        let c : C ≡ sets S 0 (sort_of keys L) = eC ∙ ap (λ (l : List ℕ). sets S 0 (merge_of keys (take m both) l)) (tail_part m both) ∙ ap (sets S 0) merged_is in
        let f : C ≡ sort_of keys L ++ drop (0 + length (sort_of keys L)) S = c ∙ sets-eq (sort_of keys L) S 0 (let z : 0 + length (sort_of keys L) ≤ length S = omega arith in z) in
        eO ∙ ap (λ (i : ℕ). take i C) len₂ ∙ ap (take (length L)) f ∙ take_at (sort_of keys L) (drop (0 + length (sort_of keys L)) S) (length L) s
