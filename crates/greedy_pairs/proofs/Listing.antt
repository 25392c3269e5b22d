-- The list of the places that pass: a turn of writing it, and what holds of its entries. Assumes nothing.
use mathlib.Core.Path.{◌≡◌, refl, sym, ap, ◌∙◌}
use mathlib.Core.Bool.{Bool, true, false}
use mathlib.Core.List.{List, [], ◌∷◌, ◌++◌}
use mathlib.Core.Logic.{⊎_elim}
use Prim.Native.Nat.{ℕ, zero, suc, ◌+◌, ◌<◌, ◌≤◌}
use native.Mathlib.Omega.{arith}
use native.Mathlib.Numerals.{add-one}
use lib.ListN.{length, set, take, length-set}
use lib.Seq.{take-suc-set}
use lib.Ieee.{Float, nan, inf, fin, le, lt, eq, is_nan}
use Rattle.floats.specs.Float.{is_finite}
use Rattle.square.specs.Index.{count, gather}
use Rattle.square.proofs.Truth.{dec}
use Rattle.square.proofs.Count.{count-zero, count-le}
use Rattle.square.proofs.Gather.{gather_yes, gather_no, gather_none, gather-length, count_next, count_stay}
use Rattle.sorting.specs.Order.{Each, Rising, Numbers, key_of}
use Rattle.greedy_pairs.specs.Pairs.{places_of}

-- ---- the loop: the first places of order, which has so many, are those below i that pass
module _ (passes : Float → Bool) (entries : List Float) (places : ℕ) where
  abbrev at : ℕ → Bool
  at i = passes (key_of entries i)

  pub record Listing (order : List ℕ) (used i : ℕ) : Type 0 where
    pub within : i ≤ length entries
    pub few : used ≤ i
    pub long : length order ≡ places
    pub used_is : used ≡ count i at
    pub listed : take used order ≡ gather i at (λ j. j)

  pub starts : (order : List ℕ) → length order ≡ places → Listing order 0 0
  starts order h = record { within = omega arith; few = omega arith; long = h; used_is = sym (count-zero at); listed = sym (gather_none at (λ j. j)) }

  module _ (order : List ℕ) (used i : ℕ) (p : Listing order used i) where
    pub lists : (order' : List ℕ) (used' : ℕ) → i < length entries → length entries ≤ places → at i ≡ true → order' ≡ set order used i → used' ≡ used + 1 → Listing order' used' (i + 1)
    lists order' used' h r e eo eu =
        let k = p.few in
        let m = p.long in
        record {
          within = omega arith;
          few = omega arith;
          long = ap length eo ∙ length-set order used i ∙ m;
          used_is = eu ∙ count_next at i used p.used_is e;
          listed = rw (eo, eu, add-one used, add-one i, take-suc-set order used i (omega arith), p.listed) (sym (gather_yes at (λ j. j) i e));
        }

    pub passes_by : (order' : List ℕ) (used' : ℕ) → i < length entries → at i ≡ false → order' ≡ order → used' ≡ used → Listing order' used' (i + 1)
    passes_by order' used' h e eo eu =
        let k = p.few in
        record {
          within = omega arith;
          few = omega arith;
          long = ap length eo ∙ p.long;
          used_is = eu ∙ count_stay at i used p.used_is e;
          listed = rw (eo, eu, add-one i) (p.listed ∙ sym (gather_no at (λ j. j) i e));
        }

    pub done : i ≡ length entries → (used ≡ length (places_of passes entries)) × (take used order ≡ places_of passes entries)
    done e = (
      p.used_is ∙ sym (gather-length at (λ j. j) i) ∙ ap (λ (k : ℕ). length (gather k at (λ j. j))) e,
      p.listed ∙ ap (λ (k : ℕ). gather k at (λ j. j)) e,
    )

-- ---- its entries
each_more : (P : ℕ → Type 0) (l : List ℕ) (k : ℕ) → Each P l → P k → Each P (l ++ (k ∷ []))
each_more P [] k e h = (h, tt)
each_more P (j ∷ l) k e h = (e.0, each_more P l k e.1 h)

gather_each : (P : ℕ → Type 0) (Q : ℕ → Bool) (n : ℕ) → ((i : ℕ) → i < n → Q i ≡ true → P i) → Each P (gather n Q (λ i. i))
gather_each P Q zero f = rw (gather_none Q (λ i. i)) tt
gather_each P Q (suc n) f = ⊎_elim
    (λ (e : Q n ≡ true). rw (gather_yes Q (λ i. i) n e) (each_more P (gather n Q (λ i. i)) n (gather_each P Q n (λ i h. f i (omega arith))) (f n (omega arith) e)))
    (λ (e : Q n ≡ false). rw (gather_no Q (λ i. i) n e) (gather_each P Q n (λ i h. f i (omega arith))))
    (dec (Q n))

rising_more : (l : List ℕ) (k : ℕ) → Rising l → Each (λ j. j < k) l → Rising (l ++ (k ∷ []))
rising_more [] k r e = (tt, tt)
rising_more (j ∷ l) k r e = (each_more (λ i. j < i) l k r.0 e.0, rising_more l k r.1 e.1)

gather_rises : (Q : ℕ → Bool) (n : ℕ) → Rising (gather n Q (λ i. i))
gather_rises Q zero = rw (gather_none Q (λ i. i)) tt
gather_rises Q (suc n) = ⊎_elim
    (λ (e : Q n ≡ true). rw (gather_yes Q (λ i. i) n e) (rising_more (gather n Q (λ i. i)) n (gather_rises Q n) (gather_each (λ j. j < n) Q n (λ i h q. h))))
    (λ (e : Q n ≡ false). rw (gather_no Q (λ i. i) n e) (gather_rises Q n))
    (dec (Q n))

module _ (passes : Float → Bool) (entries : List Float) where
  pub places_pass : Each (λ k. passes (key_of entries k) ≡ true) (places_of passes entries)
  places_pass = gather_each _ (λ i. passes (key_of entries i)) (length entries) (λ i h e. e)

  pub places_inside : Each (λ k. k < length entries) (places_of passes entries)
  places_inside = gather_each _ (λ i. passes (key_of entries i)) (length entries) (λ i h e. h)

  pub places_rise : Rising (places_of passes entries)
  places_rise = gather_rises (λ i. passes (key_of entries i)) (length entries)

  pub places_few : length (places_of passes entries) ≤ length entries
  places_few =
      let a = gather-length (λ i. passes (key_of entries i)) (λ i. i) (length entries) in
      let b = count-le (length entries) (λ i. passes (key_of entries i)) in
      omega arith

  pub places_numbers : ((x : Float) → passes x ≡ true → is_nan x ≡ false) → Numbers entries (places_of passes entries)
  places_numbers f = gather_each _ (λ i. passes (key_of entries i)) (length entries) (λ i h e. f (key_of entries i) e)

-- what either module lists is a number
pub finite_number : (x : Float) → is_finite x ≡ true → is_nan x ≡ false
unfolding is_finite is_nan
finite_number nan e = sym e
finite_number (inf s) e = refl
finite_number (fin s m d) e = refl

pub share_number : (t x : Float) → le t x ≡ true → is_nan x ≡ false
unfolding le lt eq is_nan
share_number nan nan e = sym e
share_number (inf s) nan e = sym e
share_number (fin s m d) nan e = sym e
share_number t (inf s) e = refl
share_number t (fin s m d) e = refl
