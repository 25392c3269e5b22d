-- A sort read by places, and by the numbers of its entries. Assumes nothing.
use mathlib.Core.Path.{◌≡◌}
use mathlib.Core.Bool.{Bool, true, false, cond}
use mathlib.Core.List.{List, [], ◌∷◌}
use Prim.Native.Nat.{ℕ, zero, suc, ◌<◌}
use native.Mathlib.Nat.{le_of_suc-le-suc, not-suc-le-zero}
use lib.ListN.{length, get_or}
use lib.Ieee.{Float, is_nan}
use Rattle.sorting.specs.Order.{Each, Rising, key_of, Sorted, tied, ties, StableSort}
use Rattle.sorting.proofs.Permutes.{each_at}

module _ (first : Float → Float → Bool) (keys : List Float) where
  -- no key has to come before that of a place in front of it
  pub in_order : (l : List ℕ) (i j : ℕ) → Sorted first keys l → i < j → j < length l → first (key_of keys (get_or l j 0)) (key_of keys (get_or l i 0)) ≡ false
  in_order [] i j s g h = absurd (not-suc-le-zero h)
  in_order (k ∷ l) i zero s g h = absurd (not-suc-le-zero g)
  in_order (k ∷ l) zero (suc j) s g h = each_at (λ e. first (key_of keys e) (key_of keys k) ≡ false) l j s.0 (le_of_suc-le-suc h)
  in_order (k ∷ l) (suc i) (suc j) s g h = in_order l i j s.1 (le_of_suc-le-suc g) (le_of_suc-le-suc h)

  each_tie : (P : ℕ → Type 0) (x : Float) (l : List ℕ) → Each P l → Each P (ties keys x l)
  unfolding ties
  each_tie P x [] e = tt
  each_tie P x (k ∷ l) e = go (tied x (key_of keys k)) (each_tie P x l e.1)
    where
      go : (b : Bool) → Each P (ties keys x l) → Each P (cond b (k ∷ ties keys x l) (ties keys x l))
      go true r = (e.0, r)
      go false r = r

  ties_rise : (x : Float) (l : List ℕ) → Rising l → Rising (ties keys x l)
  unfolding ties
  ties_rise x [] r = tt
  ties_rise x (k ∷ l) r = go (tied x (key_of keys k)) (ties_rise x l r.1)
    where
      go : (b : Bool) → Rising (ties keys x l) → Rising (cond b (k ∷ ties keys x l) (ties keys x l))
      go true q = (each_tie (λ j. k < j) x l r.0, q)
      go false q = q

  -- "both sorts are stable over (row, column) order": entries that came by number and tie stand by number
  pub ties_by_number : (l m : List ℕ) → Rising l → StableSort first keys l m → (x : Float) → is_nan x ≡ false → Rising (ties keys x m)
  ties_by_number l m r s x h = rw (s.stable x h) (ties_rise x l r)
