-- Two sorts merged are the sort of the two lists. Assumes nothing.
use mathlib.Core.Path.{◌≡◌, refl, sym, ap, ◌∙◌}
use mathlib.Core.Bool.{Bool, true, false, cond}
use mathlib.Core.List.{List, [], ◌∷◌, ◌++◌, append-nil}
use Prim.Native.Nat.{ℕ, suc, ◌+◌}
use native.Mathlib.Omega.{arith}
use lib.Dec.{eqb}
use lib.Ieee.{Float, lt, is_nan}
use Rattle.sorting.specs.Order.{Each, key_of, times, ascending, Sorted, tied, ties, Numbers}
use Rattle.sorting.specs.Sort.{sort_of}
use Rattle.sorting.specs.Steps.{merge_of}
use Rattle.floats.proofs.Order.{irreflexive, asymmetric}
use Rattle.sorting.proofs.Permutes.{permutes}
use Rattle.sorting.proofs.Sorts.{NoneBelow, ties_in, ties_out, ties_none, lower, not_above_below, tied_above, over, still_numbers, only, sorts}

module _ (keys : List Float) where
  none_merged : (x : Float) (a b : List ℕ) → NoneBelow keys x a → NoneBelow keys x b → NoneBelow keys x (merge_of keys a b)
  unfolding merge_of
  none_merged x [] b m n = n
  none_merged x (p ∷ a) [] m n = m
  none_merged x (p ∷ a) (q ∷ b) m n = go (lt (key_of keys q) (key_of keys p)) (none_merged x (p ∷ a) b m n.1) (none_merged x a (q ∷ b) m.1 n)
    where
      go : (c : Bool) → NoneBelow keys x (merge_of keys (p ∷ a) b) → NoneBelow keys x (merge_of keys a (q ∷ b)) → NoneBelow keys x (cond c (q ∷ merge_of keys (p ∷ a) b) (p ∷ merge_of keys a (q ∷ b)))
      go true r s = (n.0, r)
      go false r s = (m.0, s)

  merge_sorted : (a b : List ℕ) → Numbers keys a → Numbers keys b → Sorted ascending keys a → Sorted ascending keys b → Sorted ascending keys (merge_of keys a b)
  unfolding merge_of
  merge_sorted [] b m n s t = t
  merge_sorted (p ∷ a) [] m n s t = s
  merge_sorted (p ∷ a) (q ∷ b) m n s t =
      go (lt (key_of keys q) (key_of keys p)) refl (merge_sorted (p ∷ a) b m n.1 s t.1) (merge_sorted a (q ∷ b) m.1 n s.1 t)
    where
      go : (c : Bool) → lt (key_of keys q) (key_of keys p) ≡ c → Sorted ascending keys (merge_of keys (p ∷ a) b) → Sorted ascending keys (merge_of keys a (q ∷ b))
          → Sorted ascending keys (cond c (q ∷ merge_of keys (p ∷ a) b) (p ∷ merge_of keys a (q ∷ b)))
      go true e r u =
          let f = asymmetric (key_of keys q) (key_of keys p) e in
          (none_merged (key_of keys q) (p ∷ a) b (f, lower keys (key_of keys q) (key_of keys p) a m.0 f s.0) t.0, r)
      go false e r u = (none_merged (key_of keys p) a (q ∷ b) s.0 (e, lower keys (key_of keys p) (key_of keys q) b n.0 e t.0), u)

  merge_ties : (x : Float) (a b : List ℕ) → is_nan x ≡ false → Numbers keys a → Numbers keys b → Sorted ascending keys a → Sorted ascending keys b → ties keys x (merge_of keys a b) ≡ ties keys x a ++ ties keys x b
  unfolding merge_of ties
  merge_ties x [] b h m n s t = refl
  merge_ties x (p ∷ a) [] h m n s t = sym (append-nil (ties keys x (p ∷ a)))
  merge_ties x (p ∷ a) (q ∷ b) h m n s t =
      go (lt (key_of keys q) (key_of keys p)) refl (merge_ties x (p ∷ a) b h m n.1 s t.1) (merge_ties x a (q ∷ b) h m.1 n s.1 t)
    where
      second : (d : Bool) → tied x (key_of keys q) ≡ d → lt (key_of keys q) (key_of keys p) ≡ true → ties keys x (merge_of keys (p ∷ a) b) ≡ ties keys x (p ∷ a) ++ ties keys x b
          → ties keys x (q ∷ merge_of keys (p ∷ a) b) ≡ ties keys x (p ∷ a) ++ ties keys x (q ∷ b)
      second true d e r =
          let z : ties keys x (p ∷ a) ≡ [] =
          ties_none keys x (key_of keys p) (p ∷ a) (not_above_below x (key_of keys q) (key_of keys p) h (tied_above x (key_of keys q) d) e) (irreflexive (key_of keys p), s.0) m in
          ties_in keys x q (merge_of keys (p ∷ a) b) d ∙ ap (λ (l : List ℕ). q ∷ l) (r ∙ ap (λ (l : List ℕ). l ++ ties keys x b) z)
          ∙ sym (ties_in keys x q b d) ∙ ap (λ (l : List ℕ). l ++ ties keys x (q ∷ b)) (sym z)
      second false d e r =
          ties_out keys x q (merge_of keys (p ∷ a) b) d ∙ r ∙ ap (λ (l : List ℕ). ties keys x (p ∷ a) ++ l) (sym (ties_out keys x q b d))

      go : (c : Bool) → lt (key_of keys q) (key_of keys p) ≡ c → ties keys x (merge_of keys (p ∷ a) b) ≡ ties keys x (p ∷ a) ++ ties keys x b
          → ties keys x (merge_of keys a (q ∷ b)) ≡ ties keys x a ++ ties keys x (q ∷ b)
          → ties keys x (cond c (q ∷ merge_of keys (p ∷ a) b) (p ∷ merge_of keys a (q ∷ b))) ≡ ties keys x (p ∷ a) ++ ties keys x (q ∷ b)
      go true e r u = second (tied x (key_of keys q)) refl e r
      go false e r u =
          ap (λ (l : List ℕ). cond (tied x (key_of keys p)) (p ∷ l) l) u ∙ sym (over (tied x (key_of keys p)) p (ties keys x a) (ties keys x (q ∷ b)))

  ties_both : (x : Float) (a b : List ℕ) → ties keys x (a ++ b) ≡ ties keys x a ++ ties keys x b
  unfolding ties
  ties_both x [] b = refl
  ties_both x (k ∷ a) b =
      ap (λ (l : List ℕ). cond (tied x (key_of keys k)) (k ∷ l) l) (ties_both x a b) ∙ sym (over (tied x (key_of keys k)) k (ties keys x a) (ties keys x b))

  each_both : (P : ℕ → Type 0) (a b : List ℕ) → Each P a → Each P b → Each P (a ++ b)
  each_both P [] b m n = n
  each_both P (k ∷ a) b m n = (m.0, each_both P a b m.1 n)

  -- ---- a permutation of the two
  one_more : (e : Bool) (m n r : ℕ) → r ≡ m + n → cond e (suc r) r ≡ cond e (suc m) m + n
  one_more true m n r h = omega arith
  one_more false m n r h = h

  merge_times : (k : ℕ) (a b : List ℕ) → times k (merge_of keys a b) ≡ times k a + times k b
  unfolding merge_of times
  merge_times k [] b = omega arith
  merge_times k (p ∷ a) [] = omega arith
  merge_times k (p ∷ a) (q ∷ b) = go (lt (key_of keys q) (key_of keys p)) (merge_times k (p ∷ a) b) (merge_times k a (q ∷ b))
    where
      second : (e : Bool) (m n r : ℕ) → r ≡ m + n → cond e (suc r) r ≡ m + cond e (suc n) n
      second true m n r h = omega arith
      second false m n r h = h

      go : (c : Bool) → times k (merge_of keys (p ∷ a) b) ≡ times k (p ∷ a) + times k b → times k (merge_of keys a (q ∷ b)) ≡ times k a + times k (q ∷ b)
          → times k (cond c (q ∷ merge_of keys (p ∷ a) b) (p ∷ merge_of keys a (q ∷ b))) ≡ times k (p ∷ a) + times k (q ∷ b)
      go true r s = second (eqb q k) (times k (p ∷ a)) (times k b) (times k (merge_of keys (p ∷ a) b)) r
      go false r s = one_more (eqb p k) (times k a) (times k (q ∷ b)) (times k (merge_of keys a (q ∷ b))) s

  times_both : (k : ℕ) (a b : List ℕ) → times k (a ++ b) ≡ times k a + times k b
  unfolding times
  times_both k [] b = omega arith
  times_both k (p ∷ a) b = one_more (eqb p k) (times k a) (times k b) (times k (a ++ b)) (times_both k a b)

  -- TWO SORTS MERGED are the sort of the two lists
  pub merged : (a b : List ℕ) → Numbers keys a → Numbers keys b → merge_of keys (sort_of keys a) (sort_of keys b) ≡ sort_of keys (a ++ b)
  merged a b m n =
      let s = sorts keys a m in
      let t = sorts keys b n in
      let m' = still_numbers keys a m in
      let n' = still_numbers keys b n in
      only keys (a ++ b) (merge_of keys (sort_of keys a) (sort_of keys b)) (each_both (λ k. is_nan (key_of keys k) ≡ false) a b m n)
      (record {
        permuted = λ k. merge_times k (sort_of keys a) (sort_of keys b) ∙ rw (permutes keys a k, permutes keys b k) (sym (times_both k a b));
        sorted = merge_sorted (sort_of keys a) (sort_of keys b) m' n' s.sorted t.sorted;
        stable = λ x h. merge_ties x (sort_of keys a) (sort_of keys b) h m' n' s.sorted t.sorted ∙ joined x (s.stable x h) (t.stable x h);
      })
    where
      joined : (x : Float) → ties keys x (sort_of keys a) ≡ ties keys x a → ties keys x (sort_of keys b) ≡ ties keys x b → ties keys x (sort_of keys a) ++ ties keys x (sort_of keys b) ≡ ties keys x (a ++ b)
      joined x e f = rw (e, f) (sym (ties_both x a b))
