-- A descending sort is an ascending one by the negated keys, entries that tie as they stood. Assumes nothing.
use mathlib.Core.Path.{◌≡◌, refl, sym, ap, ◌∙◌, subst}
use mathlib.Core.Bool.{false, not, and_comm}
use mathlib.Core.List.{List, [], ◌∷◌, map}
use Prim.Native.Nat.{ℕ, zero, suc}
use lib.Ieee.{Float, lt, neg, is_nan}
use Rattle.floats.proofs.Negation.{neg-neg, neg-lt, neg_number}
use Rattle.sorting.specs.Order.{Each, Numbers, key_of, ascending, descending, Sorted, tied, ties, StableSort}
use Rattle.sorting.specs.Sort.{fall_of}
use Rattle.sorting.proofs.Sorts.{sorts, one_sort}

pub neg_key : (keys : List Float) (k : ℕ) → key_of (map neg keys) k ≡ neg (key_of keys k)
unfolding neg
neg_key [] k = refl
neg_key (x ∷ keys) zero = refl
neg_key (x ∷ keys) (suc k) = neg_key keys k

each_of_lem : (P Q : ℕ → Type 0) → ((k : ℕ) → P k → Q k) → (l : List ℕ) → Each P l → Each Q l
each_of_lem P Q f [] e = tt
each_of_lem P Q f (k ∷ l) e = (f k e.0, each_of_lem P Q f l e.1)

module _ (keys : List Float) where
  turned : (j k : ℕ) → lt (key_of (map neg keys) j) (key_of (map neg keys) k) ≡ lt (key_of keys k) (key_of keys j)
  turned j k = rw (neg_key keys j, neg_key keys k) (neg-lt (key_of keys j) (key_of keys k))

  pub neg_numbers : (l : List ℕ) → Numbers keys l → Numbers (map neg keys) l
  neg_numbers = each_of_lem (λ k. is_nan (key_of keys k) ≡ false) (λ k. is_nan (key_of (map neg keys) k) ≡ false) (λ k h. ap is_nan (neg_key keys k) ∙ neg_number (key_of keys k) ∙ h)

  tied_turned : (x : Float) (k : ℕ) → tied (neg x) (key_of (map neg keys) k) ≡ tied x (key_of keys k)
  tied_turned x k =
      rw (neg_key keys k, neg-lt x (key_of keys k), neg-lt (key_of keys k) x) (and_comm (not (lt (key_of keys k) x)) (not (lt x (key_of keys k))))

  ties_turned : (x : Float) (l : List ℕ) → ties (map neg keys) (neg x) l ≡ ties keys x l
  unfolding ties
  ties_turned x [] = refl
  ties_turned x (k ∷ l) = rw (tied_turned x k, ties_turned x l) refl

  falling : (l : List ℕ) → Sorted ascending (map neg keys) l → Sorted descending keys l
  falling [] s = tt
  falling (k ∷ l) s = (each_of_lem _ _ (λ j h. sym (turned j k) ∙ h) l s.0, falling l s.1)

  rising : (l : List ℕ) → Sorted descending keys l → Sorted ascending (map neg keys) l
  rising [] s = tt
  rising (k ∷ l) s = (each_of_lem _ _ (λ j h. turned j k ∙ h) l s.0, rising l s.1)

  -- the promise of the one is that of the other
  pub falls_so : (l m : List ℕ) → StableSort ascending (map neg keys) l m → StableSort descending keys l m
  falls_so l m a = record {
    permuted = a.permuted;
    sorted = falling m a.sorted;
    stable = λ x h. sym (ties_turned x m) ∙ a.stable (neg x) (neg_number x ∙ h) ∙ ties_turned x l;
  }

  rises_so : (l m : List ℕ) → StableSort descending keys l m → StableSort ascending (map neg keys) l m
  rises_so l m a = record {
    permuted = a.permuted;
    sorted = rising m a.sorted;
    stable = λ x h.
        subst (λ (y : Float). ties (map neg keys) y m ≡ ties (map neg keys) y l) (neg-neg x)
        (ties_turned (neg x) m ∙ a.stable (neg x) (neg_number x ∙ h) ∙ sym (ties_turned (neg x) l));
  }

  -- FALLING: fall_of keeps the promise of a descending sort, and any two lists that keep it are the same
  pub falls : (l : List ℕ) → Numbers keys l → StableSort descending keys l (fall_of keys l)
  falls l n = falls_so l (fall_of keys l) (sorts (map neg keys) l (neg_numbers l n))

  pub one_fall : (l m m' : List ℕ) → Numbers keys l → StableSort descending keys l m → StableSort descending keys l m' → m ≡ m'
  one_fall l m m' n a b = one_sort (map neg keys) l m m' (neg_numbers l n) (rises_so l m a) (rises_so l m' b)
