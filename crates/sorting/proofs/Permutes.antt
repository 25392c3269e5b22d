-- What holds of each entry of a list holds of each of a permutation of it; and sort_of permutes. Assumes nothing.
use mathlib.Core.Path.{◌≡◌, refl, ap, ◌∙◌, subst}
use mathlib.Core.Bool.{Bool, true, false, cond}
use mathlib.Core.List.{List, [], ◌∷◌}
use Prim.Native.Nat.{ℕ, zero, suc, ◌+◌, ◌<◌}
use native.Mathlib.Omega.{arith}
use native.Mathlib.Nat.{le_of_suc-le-suc, not-suc-le-zero, zero-add}
use borrow.Author.Tests.{eqb-true, eq-eqb}
use lib.Dec.{eqb}
use lib.ListN.{length, get_or}
use lib.Ieee.{Float, lt}
use Rattle.sorting.specs.Order.{Each, key_of, times}
use Rattle.sorting.specs.Sort.{put, put_all, sort_of}

-- ---- any permutation
module _ (P : ℕ → Type 0) where
  pub each_at : (l : List ℕ) (i : ℕ) → Each P l → i < length l → P (get_or l i 0)
  each_at [] i e h = absurd (not-suc-le-zero h)
  each_at (k ∷ l) zero e h = e.0
  each_at (k ∷ l) (suc i) e h = each_at l i e.1 (le_of_suc-le-suc h)

  standing : (k : ℕ) (l : List ℕ) → Each P l → 0 < times k l → P k
  unfolding times
  standing k [] e h = absurd (not-suc-le-zero h)
  standing k (j ∷ l) e h = go (eqb j k) refl h (standing k l e.1)
    where
      go : (b : Bool) → eqb j k ≡ b → 0 < cond b (suc (times k l)) (times k l) → (0 < times k l → P k) → P k
      go true q r s = subst P (eqb-true j k q) e.0
      go false q r s = s r

  of_standing : (l : List ℕ) → ((k : ℕ) → 0 < times k l → P k) → Each P l
  unfolding times
  of_standing [] f = tt
  of_standing (j ∷ l) f = (f j (rw (eq-eqb j j refl) (omega arith)), of_standing l (λ k h. f k (more (eqb j k) k h)))
    where
      more : (b : Bool) (k : ℕ) → 0 < times k l → 0 < cond b (suc (times k l)) (times k l)
      more true k h = omega arith
      more false k h = h

  pub each_permuted : (l m : List ℕ) → ((k : ℕ) → times k m ≡ times k l) → Each P l → Each P m
  each_permuted l m p e = of_standing m (λ k h. standing k l e (subst (λ (n : ℕ). 0 < n) (p k) h))

-- ---- this one
module _ (keys : List Float) where
  swap : (a b : Bool) (n : ℕ) → cond a (suc (cond b (suc n) n)) (cond b (suc n) n) ≡ cond b (suc (cond a (suc n) n)) (cond a (suc n) n)
  swap true true n = refl
  swap true false n = refl
  swap false true n = refl
  swap false false n = refl

  put-times : (a k : ℕ) (m : List ℕ) → times a (put keys k m) ≡ times a (k ∷ m)
  unfolding put times
  put-times a k [] = refl
  put-times a k (j ∷ m) = go (lt (key_of keys k) (key_of keys j)) (put-times a k m)
    where
      go : (b : Bool) → times a (put keys k m) ≡ times a (k ∷ m) → times a (cond b (k ∷ (j ∷ m)) (j ∷ put keys k m)) ≡ times a (k ∷ (j ∷ m))
      go true r = refl
      go false r = ap (λ (n : ℕ). cond (eqb j a) (suc n) n) r ∙ swap (eqb j a) (eqb k a) (times a m)

  plus : (b : Bool) (n r : ℕ) → cond b (suc n) n + r ≡ n + cond b (suc r) r
  plus true n r = omega arith
  plus false n r = refl

  all_times : (a : ℕ) (l m : List ℕ) → times a (put_all keys l m) ≡ times a m + times a l
  unfolding put_all times
  all_times a [] m = omega arith
  all_times a (k ∷ l) m =
      all_times a l (put keys k m) ∙ ap (λ (n : ℕ). n + times a l) (put-times a k m) ∙ plus (eqb k a) (times a m) (times a l)

  pub permutes : (l : List ℕ) (a : ℕ) → times a (sort_of keys l) ≡ times a l
  unfolding sort_of times
  permutes l a = all_times a l [] ∙ zero-add (times a l)

  pub put-length : (k : ℕ) (m : List ℕ) → length (put keys k m) ≡ suc (length m)
  unfolding put
  put-length k [] = refl
  put-length k (j ∷ m) = go (lt (key_of keys k) (key_of keys j)) (put-length k m)
    where
      go : (b : Bool) → length (put keys k m) ≡ suc (length m) → length (cond b (k ∷ (j ∷ m)) (j ∷ put keys k m)) ≡ suc (suc (length m))
      go true r = refl
      go false r = ap suc r

  all_length : (l m : List ℕ) → length (put_all keys l m) ≡ length m + length l
  unfolding put_all
  all_length [] m = omega arith
  all_length (k ∷ l) m = let a = all_length l (put keys k m) in let b = put-length k m in omega arith

  pub as_long : (l : List ℕ) → length (sort_of keys l) ≡ length l
  unfolding sort_of
  as_long l = all_length l [] ∙ zero-add (length l)

  pub each_still : (P : ℕ → Type 0) (l : List ℕ) → Each P l → Each P (sort_of keys l)
  each_still P l e = each_permuted P l (sort_of keys l) (permutes l) e
