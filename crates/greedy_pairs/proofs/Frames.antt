-- From the list of places to the pairs of a frame. Assumes nothing.
use mathlib.Core.Path.{◌≡◌, sym, ap, ◌∙◌}
use mathlib.Core.Bool.{Bool, true, false}
use mathlib.Core.List.{List, ◌++◌, map}
use Prim.Native.Nat.{ℕ, ◌*◌, ◌<◌, ◌≤◌}
use native.Mathlib.Omega.{arith}
use native.Mathlib.Nat.{mul-le-mul}
use lib.ListN.{length, take, length-take}
use lib.Ieee.{Float, neg, le, is_nan}
use Rattle.floats.specs.Float.{is_finite}
use Rattle.square.specs.Index.{Once}
use Rattle.sorting.specs.Order.{Each, Rising, Numbers, key_of, ascending, descending, ties, StableSort}
use Rattle.sorting.specs.Sort.{sort_of, fall_of}
use Rattle.sorting.proofs.Permutes.{each_still}
use Rattle.sorting.proofs.Sorts.{sorts}
use Rattle.sorting.proofs.Falls.{falls}
use Rattle.sorting.proofs.Places.{ties_by_number}
use Rattle.greedy.specs.Greedy.{taken_of, none, rows_of, cols_of, left_of, Fitting}
use Rattle.greedy.proofs.Taking.{each_taken}
use Rattle.greedy.proofs.Pairings.{fitting, rows_once, cols_once}
use Rattle.greedy_pairs.specs.Pairs.{places_of, by_distance, by_share}
use Rattle.greedy_pairs.proofs.Listing.{places_pass, places_inside, places_rise, places_few, places_numbers, finite_number, share_number}

pub small : (n w l : ℕ) → n ≤ 64 → w ≤ 64 → l ≡ n * w → l ≤ 4096
small n w l h g e = let z : n * w ≤ 4096 = mul-le-mul h g in omega arith

-- ---- the code's list, in the front of an array
module _ (passes : Float → Bool) (entries : List Float) (n w : ℕ) (n64 : n ≤ 64) (w64 : w ≤ 64) (size : length entries ≡ n * w) (a : List ℕ) (u : ℕ)
    (eu : u ≡ length (places_of passes entries)) (ea : take u a ≡ places_of passes entries) where
  pub listed_long : u ≡ length (take u a)
  listed_long = eu ∙ ap length (sym ea)

  pub listed_fits : u ≤ length a
  listed_fits = omega (arith, listed_long, length-take u a)

  pub listed_few : length (take u a) ≤ 4096
  listed_few = let k = places_few passes entries in let m = small n w (length entries) n64 w64 size in let e = listed_long in omega arith

  pub listed_inside : Each (λ k. k < n * w) (take u a)
  listed_inside = rw (ea, ← size) (places_inside passes entries)

  pub listed_numbers : ((x : Float) → passes x ≡ true → is_nan x ≡ false) → Numbers entries (take u a)
  listed_numbers f = rw ea (places_numbers passes entries f)

-- ---- what 01 says of the two orders
-- all finite distances, ascending; entries that tie by row and then by column
pub distances_sorted : (distances : List Float) → StableSort ascending distances (places_of is_finite distances) (sort_of distances (places_of is_finite distances))
distances_sorted distances = sorts distances (places_of is_finite distances) (places_numbers is_finite distances finite_number)

pub distances_tie : (distances : List Float) (x : Float) → is_nan x ≡ false → Rising (ties distances x (sort_of distances (places_of is_finite distances)))
distances_tie distances = ties_by_number ascending distances (places_of is_finite distances) _ (places_rise is_finite distances) (distances_sorted distances)

-- all IoUs from the threshold on, descending; entries that tie likewise
pub shares_sorted : (shares : List Float) (t : Float) → StableSort descending shares (places_of (le t) shares) (fall_of shares (places_of (le t) shares))
shares_sorted shares t = falls shares (places_of (le t) shares) (places_numbers (le t) shares (share_number t))

pub shares_tie : (shares : List Float) (t x : Float) → is_nan x ≡ false → Rising (ties shares x (fall_of shares (places_of (le t) shares)))
shares_tie shares t = ties_by_number descending shares (places_of (le t) shares) _ (places_rise (le t) shares) (shares_sorted shares t)

-- ---- what is taken passes
pub distances_pass : (distances : List Float) (w : ℕ) → Each (λ k. is_finite (key_of distances k) ≡ true) (taken_of w (sort_of distances (places_of is_finite distances)))
distances_pass distances w = each_taken _ w _ none none (each_still distances _ _ (places_pass is_finite distances))

pub shares_pass : (shares : List Float) (t : Float) (w : ℕ) → Each (λ k. le t (key_of shares k) ≡ true) (taken_of w (fall_of shares (places_of (le t) shares)))
shares_pass shares t w = each_taken _ w _ none none (each_still (map neg shares) _ _ (places_pass (le t) shares))

-- ---- each row and each column once
module _ (distances : List Float) (n w : ℕ) (n64 : n ≤ 64) (w64 : w ≤ 64) (size : length distances ≡ n * w) where
  abbrev distance_order : List ℕ
  distance_order = sort_of distances (places_of is_finite distances)

  inside₃ : Each (λ k. k < n * w) distance_order
  inside₃ = rw (← size) (each_still distances _ _ (places_inside is_finite distances))

  pub distance_fits : Fitting n w (by_distance distances w)
  unfolding by_distance
  distance_fits = fitting n w distance_order n64 w64 inside₃

  pub distance_rows : Once n (rows_of w (taken_of w distance_order) ++ left_of n (by_distance distances w).rows)
  unfolding by_distance
  distance_rows = rows_once n w distance_order n64 w64 inside₃

  pub distance_cols : Once w (cols_of w (taken_of w distance_order) ++ left_of w (by_distance distances w).cols)
  unfolding by_distance
  distance_cols = cols_once n w distance_order n64 w64 inside₃

module _ (shares : List Float) (t : Float) (n w : ℕ) (n64 : n ≤ 64) (w64 : w ≤ 64) (size : length shares ≡ n * w) where
  abbrev share_order : List ℕ
  share_order = fall_of shares (places_of (le t) shares)

  inside₄ : Each (λ k. k < n * w) share_order
  inside₄ = rw (← size) (each_still (map neg shares) _ _ (places_inside (le t) shares))

  pub share_fits : Fitting n w (by_share shares t w)
  unfolding by_share
  share_fits = fitting n w share_order n64 w64 inside₄

  pub share_rows : Once n (rows_of w (taken_of w share_order) ++ left_of n (by_share shares t w).rows)
  unfolding by_share
  share_rows = rows_once n w share_order n64 w64 inside₄

  pub share_cols : Once w (cols_of w (taken_of w share_order) ++ left_of w (by_share shares t w).cols)
  unfolding by_share
  share_cols = cols_once n w share_order n64 w64 inside₄
