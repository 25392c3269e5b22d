-- The numbers whose mark is as wanted: the loop that picks them, and what a loop over the picked ones comes to. Assumes nothing.
use Prim.Native.Nat.{ℕ, zero, suc, ◌+◌, ◌<◌, ◌≤◌}
use mathlib.Core.Path.{◌≡◌, refl, sym, ap, ◌∙◌, subst}
use mathlib.Core.Bool.{Bool, true, false, cond, beq}
use mathlib.Core.List.{List, [], ◌∷◌, ◌++◌}
use mathlib.Core.Logic.{⊎_elim}
use native.Mathlib.Omega.{arith}
use lib.ListN.{length, get_or, set, replicate, length-append, get_or-append}
use lib.Seq.{get_or-append_seam}
use Rattle.square.specs.Index.{count, gather, filled, like, loop, on, Picked}
use Rattle.square.proofs.Truth.{dec}
use Rattle.square.proofs.Index.{loop_same}
use Rattle.square.proofs.Count.{count-zero, count-le, count_up}
use Rattle.square.proofs.Gather.{count_next, count_stay, fill_yes, fill_no, gather_at, gather-length, gather_none, gather_yes, gather_no, rising, those, which}

-- ---- the loop that picks
-- the code's test
like_is : (wanted b : Bool) → like wanted b ≡ beq b wanted
like_is true true = refl
like_is true false = refl
like_is false true = refl
like_is false false = refl

module _ (wanted : Bool) (marks : List Bool) where
  abbrev passes : ℕ → Bool
  passes i = like wanted (on marks i)

  pub picked_none : Picked wanted marks 0 (replicate 64 0) 0
  picked_none = record { places_are = ap (filled 0) (sym (gather_none passes (λ i. i))); used_is = sym (count-zero passes) }

  module _ (k : ℕ) (places : List ℕ) (used : ℕ) (v : Picked wanted marks k places used) where
    pub picked_few : used ≤ k
    picked_few = omega (arith, v.used_is, count-le k passes)

    pub picked_yes : k < 64 → beq (on marks k) wanted ≡ true → Picked wanted marks (k + 1) (set places used k) (used + 1)
    picked_yes l e = record {
      places_are = fill_yes 0 passes (λ i. i) k used places v.places_are v.used_is (omega (arith, picked_few)) (like_is wanted (on marks k) ∙ e);
      used_is = count_next passes k used v.used_is (like_is wanted (on marks k) ∙ e);
    }

    pub picked_no : beq (on marks k) wanted ≡ false → Picked wanted marks (k + 1) places used
    picked_no e = let f = like_is wanted (on marks k) ∙ e in
        record { places_are = fill_no 0 passes (λ i. i) k used places v.places_are v.used_is f; used_is = count_stay passes k used v.used_is f }

pub picked_at : {wanted : Bool} {marks : List Bool} {k : ℕ} {places places' : List ℕ} {used used' : ℕ} → places' ≡ places → used' ≡ used → Picked wanted marks k places used → Picked wanted marks k places' used'
picked_at p q v = record { places_are = p ∙ v.places_are; used_is = q ∙ v.used_is }

-- ---- a loop over those that pass
module _ {A : Type 0} (P : ℕ → Bool) (g : ℕ → A → A) (a : A) where
  one_more : (k : ℕ) (l : List ℕ) → loop (length (l ++ (k ∷ []))) (λ t. g (get_or (l ++ (k ∷ [])) t 0)) a ≡ g k (loop (length l) (λ t. g (get_or l t 0)) a)
  unfolding loop
  one_more k l =
      let e : length (l ++ (k ∷ [])) ≡ suc (length l) = omega (arith, length-append l (k ∷ [])) in
      ap (λ (x : ℕ). loop x (λ t. g (get_or (l ++ (k ∷ [])) t 0)) a) e
      ∙ ap (λ (x : ℕ). g x (loop (length l) (λ t. g (get_or (l ++ (k ∷ [])) t 0)) a)) (get_or-append_seam l k [] 0)
      ∙ ap (g k) (loop_same (length l) _ _ a (λ t h x. ap (λ (y : ℕ). g y x) (get_or-append l (k ∷ []) 0 t h)))

  pub loop-those : (n : ℕ) → loop n (λ j x. cond (P j) (g j x) x) a ≡ loop (length (those n P)) (λ t. g (get_or (those n P) t 0)) a
  unfolding loop gather
  loop-those zero = refl
  loop-those (suc k) = ⊎_elim
      (λ (e : P k ≡ true). ap (λ (b : Bool). cond b (g k (loop k (λ j x. cond (P j) (g j x) x) a)) (loop k (λ j x. cond (P j) (g j x) x) a)) e
      ∙ ap (g k) (loop-those k) ∙ sym (one_more k (those k P)) ∙ ap (λ (l : List ℕ). loop (length l) (λ t. g (get_or l t 0)) a) (sym (gather_yes P (λ i. i) k e)))
      (λ (e : P k ≡ false). ap (λ (b : Bool). cond b (g k (loop k (λ j x. cond (P j) (g j x) x) a)) (loop k (λ j x. cond (P j) (g j x) x) a)) e
      ∙ loop-those k ∙ ap (λ (l : List ℕ). loop (length l) (λ t. g (get_or l t 0)) a) (sym (gather_no P (λ i. i) k e)))
      (dec (P k))

module _ (wanted : Bool) (marks : List Bool) (n : ℕ) (places : List ℕ) (used : ℕ) (v : Picked wanted marks n places used) where
  abbrev picks : ℕ → Bool
  picks j = like wanted (on marks j)

  used_length : used ≡ length (those n picks)
  used_length = v.used_is ∙ sym (gather-length picks (λ i. i) n)

  place_is : (t : ℕ) → t < used → get_or places t 0 ≡ get_or (those n picks) t 0
  place_is t l = ap (λ (x : List ℕ). get_or x t 0) v.places_are ∙ get_or-append (those n picks) _ 0 t (omega (arith, used_length))

  pub picked_in : (t : ℕ) → t < used → get_or places t 0 < n
  picked_in t l =
      let w = which picks n t (omega (arith, v.used_is)) in
      let e = subst (λ (x : ℕ). get_or (those n picks) x 0 ≡ w.0) w.3 (gather_at picks (λ i. i) n w.0 0 w.1 w.2) in
      omega (arith, place_is t l, e, w.1)

  pub picked_rising : (t t' : ℕ) → t < t' → t' < used → get_or places t 0 < get_or places t' 0
  picked_rising t t' l l' = omega (arith, place_is t (omega arith), place_is t' l', rising n picks t t' l (omega (arith, used_length)))

  pub picked_place : (j : ℕ) → j < n → like wanted (on marks j) ≡ true → (t : ℕ) × (t < used) × (get_or places t 0 ≡ j)
  picked_place j l e = let h : count j picks < used = omega (arith, v.used_is, count_up picks j n l e) in
      (count j picks, h, place_is (count j picks) h ∙ gather_at picks (λ i. i) n j 0 l e)

  -- A LOOP OVER THE PICKED ONES is the loop over all that passes the others by
  pub picked_loop : {A : Type 0} (g : ℕ → A → A) (a : A) → loop used (λ t. g (get_or places t 0)) a ≡ loop n (λ j x. cond (like wanted (on marks j)) (g j x) x) a
  picked_loop {A} g a =
      loop_same used _ _ a (λ t l x. ap (λ (y : ℕ). g y x) (place_is t l))
      ∙ ap (λ (k : ℕ). loop k (λ t. g (get_or (those n picks) t 0)) a) used_length ∙ sym (loop-those picks g a n)
