-- The turns of the sort by insertion: an entry moved down before those above it, and what has been put in so far. Assumes nothing.
use Rattle.std.proofs.Common.{◌≡◌, refl, sym, ap, ◌∙◌, Bool, true, false, not, cond, List, [], ◌∷◌, ◌++◌, ℕ, zero, suc, ◌<◌, ◌≤◌, ◌+◌, ◌-◌, length, get_or, set, take, drop, arith, add-one}
use Rattle.std.specs.List.{position_or_len}
use Rattle.std.specs.List.{position}
use Rattle.std.proofs.lemmas.List.{take-take}
use Rattle.std.proofs.lemmas.List.Sums.{prefix_len-le-length}
use Rattle.std.specs.Option.{unwrap_or}
use Rattle.std.specs.Prelude.{None, Some, nat_lt}
use native.Mathlib.Nat.{le_of_suc-le-suc, not-suc-le-zero}
use lib.Seq.{drop-cons, drop-length, take-length, take_at, drop_at, length-take-le, get_or-take}
use borrow.Author.Tests.{ltb-false}
use Rattle.sorting.proofs.Permutes.{put-length}
use lib.Ieee.{Float, lt}
use Rattle.sorting.specs.Order.{key_of}
use Rattle.sorting.specs.Sort.{put, put_all, sort_of}

-- ---- m with k put in at i
abbrev pub put_at : ℕ → ℕ → List ℕ → List ℕ
put_at i k m = take i m ++ (k ∷ drop i m)

-- the last entry of a run, where it stands
pub stands : (i : ℕ) (l : List ℕ) → length l ≡ suc i → set l i (get_or l i 0) ≡ put_at i (get_or l i 0) (take i l)
stands i [] h = absurd (let z : ⊥ = omega arith in z)
stands zero (j ∷ []) h = refl
stands zero (j ∷ (k ∷ l)) h = absurd (let z : ⊥ = omega arith in z)
stands (suc i) (j ∷ l) h = ap (λ (m : List ℕ). j ∷ m) (stands i l (omega arith))

abbrev swapped : ℕ → List ℕ → List ℕ
swapped i l = set (set l (suc i) (get_or l i 0)) i (get_or l (suc i) 0)

swap_of : (i : ℕ) (l : List ℕ) (k : ℕ) → suc i < length l → set (set l (suc i) (get_or l i 0)) i k ≡ swapped i (set l (suc i) k)
swap_of i [] k h = absurd (not-suc-le-zero h)
swap_of zero (a ∷ []) k h = absurd (not-suc-le-zero (le_of_suc-le-suc h))
swap_of zero (a ∷ (b ∷ l)) k h = refl
swap_of (suc i) (a ∷ l) k h = ap (λ (m : List ℕ). a ∷ m) (swap_of i l k (le_of_suc-le-suc h))

swap_down : (i k : ℕ) (m : List ℕ) → suc i ≤ length m → swapped i (put_at (suc i) k m) ≡ put_at i k m
swap_down i k [] h = absurd (not-suc-le-zero h)
swap_down zero k (j ∷ m) h = refl
swap_down (suc i) k (j ∷ m) h = ap (λ (l : List ℕ). j ∷ l) (swap_down i k m (le_of_suc-le-suc h))

down_one : (i k : ℕ) (m l : List ℕ) → suc i ≤ length m → set l (suc i) k ≡ put_at (suc i) k m → suc i < length l → set (set l (suc i) (get_or l i 0)) i k ≡ put_at i k m
down_one i k m l h q b = swap_of i l k b ∙ ap (swapped i) q ∙ swap_down i k m h

-- a turn, from i to j, which is one less: k is to stand at j, and the entry there moves up
pub slides : (i j k : ℕ) (m l : List ℕ) → i ≡ suc j → i ≤ length m → set l i k ≡ put_at i k m → i < length l → set (set l i (get_or l j 0)) j k ≡ put_at j k m
slides i j k m l e h q b = rw e (down_one j k m l (rw e at h) (rw e at q) (rw e at b))

module _ (keys : List Float) where
  -- the place before the first entry whose key is above that of k
  abbrev pub place : ℕ → List ℕ → ℕ
  place k m = position_or_len (λ j. lt (key_of keys k) (key_of keys j)) m

  pub put_is : (k : ℕ) (m : List ℕ) → put keys k m ≡ put_at (place k m) k m
  unfolding put
  put_is k [] = refl
  put_is k (j ∷ m) = go (lt (key_of keys k) (key_of keys j)) (put_is k m)
    where
      go : (b : Bool) → put keys k m ≡ take (place k m) m ++ (k ∷ drop (place k m) m)
          → cond b (k ∷ (j ∷ m)) (j ∷ put keys k m) ≡ take (cond (not b) (1 + place k m) 0) (j ∷ m) ++ (k ∷ drop (cond (not b) (1 + place k m) 0) (j ∷ m))
      go true e = refl
      go false e = let f : 1 + place k m ≡ suc (place k m) = omega arith in rw f (ap (λ (l : List ℕ). j ∷ l) e)

  pub place-le : (k : ℕ) (m : List ℕ) → place k m ≤ length m
  place-le k m = prefix_len-le-length (λ j. not (lt (key_of keys k) (key_of keys j))) m

  -- where no key is above it, the end
  pub found : (k : ℕ) (m : List ℕ) → unwrap_or (position (λ j. lt (key_of keys k) (key_of keys j)) m) (length m) ≡ place k m
  found k m = go (place k m) (place-le k m) (nat_lt (place k m) (length m)) refl
    where
      go : (p : ℕ) → p ≤ length m → (b : Bool) → nat_lt p (length m) ≡ b → unwrap_or (cond b (Some p) None) (length m) ≡ p
      go p h true e = refl
      go p h false e = let f = ltb-false p (length m) e in omega arith

  -- where the code finds it, of a run whose last entry is k
  pub place_is : (run : List ℕ) (p : ℕ) → 0 < length run
      → p ≡ unwrap_or (position (λ j. lt (key_of keys (get_or run (length run - 1) 0)) (key_of keys j)) (take (length run - 1) run)) (length run - 1)
      → p ≡ place (get_or run (length run - 1) 0) (take (length run - 1) run)
  place_is run p h ep =
      let k : ℕ = get_or run (length run - 1) 0 in
      let m : List ℕ = take (length run - 1) run in
      let lm : length (take (length run - 1) run) ≡ length run - 1 = length-take-le (length run - 1) run (omega arith) in
      ep ∙ ap (λ (i : ℕ). unwrap_or (position (λ j. lt (key_of keys k) (key_of keys j)) m) i) (sym lm) ∙ found k m

  pub place_inside : (run : List ℕ) (p : ℕ) → 0 < length run → p ≡ place (get_or run (length run - 1) 0) (take (length run - 1) run) → p ≤ length run - 1
  place_inside run p h e =
      let a = place-le (get_or run (length run - 1) 0) (take (length run - 1) run) in
      let lm : length (take (length run - 1) run) ≡ length run - 1 = length-take-le (length run - 1) run (omega arith) in
      omega arith

  pub last_put : (run r : List ℕ) (p : ℕ) → p ≡ place (get_or run (length run - 1) 0) (take (length run - 1) run)
      → r ≡ put_at p (get_or run (length run - 1) 0) (take (length run - 1) run)
      → r ≡ put keys (get_or run (length run - 1) 0) (take (length run - 1) run)
  last_put run r p ep er =
      let k : ℕ = get_or run (length run - 1) 0 in
      let m : List ℕ = take (length run - 1) run in
      er ∙ ap (λ (i : ℕ). put_at i k m) ep ∙ sym (put_is k m)

  -- ---- the sort's loop
  -- the first i entries are those of l that have been put in, and the rest is to come
  abbrev pub Putting : List ℕ → List ℕ → ℕ → Type 0
  Putting l₀ l i = put_all keys (drop i l) (take i l) ≡ sort_of keys l₀

  pub none_put : (l : List ℕ) → Putting l l 0
  unfolding sort_of
  none_put l = refl

  -- r, the entries up to that at i, is now m
  pub one_put : (l₀ l r m : List ℕ) (i : ℕ) → i < length l → r ≡ take (i + 1) l → m ≡ put keys (get_or r (length r - 1) 0) (take (length r - 1) r) → Putting l₀ l i
      → Putting l₀ (m ++ drop (i + 1) l) (i + 1)
  unfolding put_all
  one_put l₀ l r m i h er em q =
      let k = get_or l i 0 in
      let lr : length r - 1 ≡ i = let n = length-take-le (i + 1) l (omega arith) in omega (arith, ap length er) in
      let e : m ≡ put keys k (take i l) =
      em ∙ rw (lr, er, get_or-take (i + 1) l i 0 (omega arith), take-take i (i + 1) l (omega arith)) refl in
      let lm : length m ≡ i + 1 = omega (arith, ap length e, put-length keys k (take i l), length-take-le i l (omega arith)) in
      rw (take_at m (drop (i + 1) l) (i + 1) lm, drop_at m (drop (i + 1) l) (i + 1) lm, e, add-one i)
      (rw (drop-cons l i 0 h) at q)

  pub all_put : (l₀ l : List ℕ) (i : ℕ) → i ≡ length l → Putting l₀ l i → l ≡ sort_of keys l₀
  unfolding put_all
  all_put l₀ l i e q = let f : put_all keys (drop i l) (take i l) ≡ l = rw (e, drop-length l, take-length l) refl in sym f ∙ q
