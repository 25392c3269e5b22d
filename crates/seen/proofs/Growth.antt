-- Ids in order of first appearance: a list only grows at its end, and a run follows it place by place. Assumes nothing.
use mathlib.Core.Path.{◌≡◌, refl, sym, ap, ◌∙◌, subst}
use mathlib.Core.Bool.{Bool, true, false, cond}
use mathlib.Core.List.{List, [], ◌∷◌, ◌++◌}
use Prim.Native.Nat.{ℕ, zero, suc, ◌<◌, ◌≤◌, ◌+◌, ◌-◌}
use native.Mathlib.Omega.{arith}
use native.Mathlib.Numerals.{add-one}
use borrow.Author.Tests.{ltb-false, lt-ltb, le-ltb}
use lib.IntN.{ℤ, pos}
use lib.Dec.{ltb}
use lib.ListN.{length, take, drop, set, get_or, length-append, length-set, take-append-drop, drop_of_length-le}
use lib.Seq.{take-take, drop-drop, take_all, take_at, take-length, length-take-le, take-set-lt, take-suc-set, drop-set-lt, set-get_or, drop-cons}
use Rattle.counts.specs.Counts.{same_id}
use Rattle.counts.proofs.Ids.{same_eq}
use Rattle.ids.specs.declared.Lookup.{Lookup}
use Rattle.ids.specs.declared.Lookup.TheVariants.{At, Absent}
use Rattle.ids.specs.Ids.{seek_from, seek_of}
use Rattle.ids.proofs.Lookups.{found_below}
use Rattle.seen.specs.Seen.{Seen, seen_at, seen_one, seen_all, place_of, used_with, over, seen_of, run_after}

-- ---- a place that is found holds the id
abbrev Holds : List ℤ → ℕ → ℤ → ℕ → Type 0
Holds l i id k = (j : ℕ) → k ≡ i + j → get_or l j (pos 0) ≡ id

found_here : (b : Bool) (i k : ℕ) (r : Lookup) (x id : ℤ) (xs : List ℤ) → (b ≡ true → x ≡ id) → (r ≡ At k → (suc i ≤ k) × Holds xs (suc i) id k) → cond b (At i) r ≡ At k
    → (i ≤ k) × Holds (x ∷ xs) i id k
found_here true i k r x id xs f g q = let z : i ≡ k = cc in (omega arith, λ (j : ℕ) (e : k ≡ i + j). let y : j ≡ 0 = omega arith in rw y (f refl))
found_here false i k r x id xs f g q =
    let h = g q in
    let a = h.0 in
    (omega arith, after)
  where
    after : Holds (x ∷ xs) i id k
    after zero e = let a = (g q).0 in absurd (omega arith)
    after (suc j) e = (g q).1 j (omega arith)

found_from : (i : ℕ) (l : List ℤ) (id : ℤ) (k : ℕ) → seek_from i l id ≡ At k → (i ≤ k) × Holds l i id k
unfolding seek_from
found_from i [] id k e = let z : ◌≡◌ {A = ℕ} 0 1 = cc in absurd (omega arith)
found_from i (x ∷ xs) id k e = found_here (same_id x id) i k (seek_from (suc i) xs id) x id xs (same_eq x id) (found_from (suc i) xs id k) e

pub found_there : (l : List ℤ) (id : ℤ) (k : ℕ) → seek_of l id ≡ At k → get_or l k (pos 0) ≡ id
found_there l id k e = (found_from 0 l id k e).1 k (omega arith)

-- ---- the list only grows at its end
one_starts : (l : List ℤ) (id : ℤ) (o : Lookup) → (take (length l) (seen_at l id o) ≡ l) × (length l ≤ length (seen_at l id o))
unfolding seen_at
one_starts l id (At k) = (take-length l, omega arith)
one_starts l id Absent = (take_at l (id ∷ []) (length l) refl, (let e = length-append l (id ∷ []) in omega arith))

pub all_long : (l ids : List ℤ) → length l ≤ length (seen_all l ids)
unfolding seen_all
all_long l [] = omega arith
all_long l (x ∷ xs) = let a = (one_starts l x (seek_of l x)).1 in let b = all_long (seen_one l x) xs in omega arith

pub all_starts : (l ids : List ℤ) → take (length l) (seen_all l ids) ≡ l
unfolding seen_all
all_starts l [] = take-length l
all_starts l (x ∷ xs) =
    let a = one_starts l x (seek_of l x) in
    sym (take-take (length l) (length (seen_one l x)) (seen_all (seen_one l x) xs) a.1)
    ∙ (ap (take (length l)) (all_starts (seen_one l x) xs) ∙ a.0)

starts_with : (l ids : List ℤ) (n : ℕ) → n ≤ length l → take n (seen_all l ids) ≡ take n l
starts_with l ids n h = sym (take-take n (length l) (seen_all l ids) h) ∙ ap (take n) (all_starts l ids)

-- ---- one id in a run
module _ (run : List ℤ) (count : ℕ) (id : ℤ) (h : count ≤ length run) where
  abbrev Turns : Lookup → Type 0
  Turns o =
      (used_with o count ≤ length run)
      × (take (used_with o count) (set run (place_of o count) id) ≡ seen_at (take count run) id o)
      × (drop (used_with o count) (set run (place_of o count) id) ≡ drop (used_with o count) run)

  place_in : (k : ℕ) → seek_of (take count run) id ≡ At k → k < count
  place_in k e = let a = found_below 0 (take count run) id k e in let n = length-take-le count run h in omega arith

  by_lookup : (o : Lookup) → seek_of (take count run) id ≡ o → place_of o count < length run → Turns o
  unfolding seen_at
  by_lookup (At k) e p =
      let q = place_in k e in (
        h,
        take-set-lt count run k id q ∙ (ap (set (take count run) k) (sym (found_there (take count run) id k e)) ∙ set-get_or (take count run) k (pos 0)),
        drop-set-lt count run k id q,
      )
  by_lookup Absent e p =
      (omega arith, rw (add-one count) (take-suc-set run count id p), drop-set-lt (count + 1) run count id (omega arith))

  pub turn : place_of (seek_of (take count run) id) count < length run → Turns (seek_of (take count run) id)
  turn p = by_lookup (seek_of (take count run) id) refl p

  none_left : (o : Lookup) → seek_of (take count run) id ≡ o → length run ≤ place_of o count → (count ≡ length run) × (seen_at (take count run) id o ≡ run ++ (id ∷ []))
  unfolding seen_at
  none_left (At k) e p = let q = place_in k e in absurd (omega arith)
  none_left Absent e p = (omega arith, ap (λ (l : List ℤ). l ++ (id ∷ [])) (take_all count run p))

  pub full_run : length run ≤ place_of (seek_of (take count run) id) count → (count ≡ length run) × (seen_one (take count run) id ≡ run ++ (id ∷ []))
  full_run p = none_left (seek_of (take count run) id) refl p

pub drop_more {ℓ} : {A : Type ℓ} (a b : List A) (n m : ℕ) → n ≤ m → drop n a ≡ drop n b → drop m a ≡ drop m b
drop_more a b n m h e =
    let z : m ≡ n + (m - n) = omega arith in
    rw z (sym (drop-drop (m - n) n a) ∙ (ap (drop (m - n)) e ∙ drop-drop (m - n) n b))

-- a run that holds what it held from n on
pub over_front {ℓ} : {A : Type ℓ} (l run : List A) (n : ℕ) → n ≤ length l → drop n l ≡ drop n run → l ≡ over (take n l) run
over_front l run n h e =
    sym (take-append-drop n l) ∙ (ap (λ (x : List _). take n l ++ x) e ∙ ap (λ (k : ℕ). take n l ++ drop k run) (sym (length-take-le n l h)))

pub grows : (o : Lookup) (count : ℕ) → count ≤ used_with o count
grows (At k) count = omega arith
grows Absent count = omega arith

-- ---- the loop over the ids: what is seen, and what is to come
abbrev pub Seeing : List ℤ → ℕ → List ℤ → List ℤ → ℕ → ℕ → Type 0
Seeing run₀ used ids run count i =
    (count ≤ length run) × (length run ≡ length run₀) × (drop count run ≡ drop count run₀)
    × (seen_all (take count run) (drop i ids) ≡ seen_all (take used run₀) ids)

pub begins : (run : List ℤ) (used : ℕ) (ids : List ℤ) → used ≤ length run → Seeing run used ids run used 0
begins run used ids h = (h, refl, refl, refl)

module _ (run₀ : List ℤ) (used : ℕ) (ids run : List ℤ) (count i : ℕ) (s : Seeing run₀ used ids run count i) where
  abbrev final : List ℤ
  final = seen_all (take used run₀) ids

  next_id : (id : ℤ) → i < length ids → get_or ids i (pos 0) ≡ id → seen_all (seen_one (take count run) id) (drop (i + 1) ids) ≡ final
  unfolding seen_all
  next_id id h e = rw (← e, add-one i) (ap (seen_all (take count run)) (sym (drop-cons ids i (pos 0) h)) ∙ s.3)

  pub sees : (id : ℤ) (o : Lookup) (at count' : ℕ) → i < length ids → get_or ids i (pos 0) ≡ id → o ≡ seek_of (take count run) id → at ≡ place_of o count → count' ≡ used_with o count
      → at < length run → Seeing run₀ used ids (set run at id) count' (i + 1)
  sees id o at count' h e q p u l =
      let at_is : at ≡ place_of (seek_of (take count run) id) count = p ∙ ap (λ (x : Lookup). place_of x count) q in
      let count_is : count' ≡ used_with (seek_of (take count run) id) count = u ∙ ap (λ (x : Lookup). used_with x count) q in
      let t = turn run count id s.0 (rw at_is at l) in
      let m = grows (seek_of (take count run) id) count in
      rw (at_is, count_is) (
        (let g = t.0 in let z = length-set run (place_of (seek_of (take count run) id) count) id in omega arith),
        length-set run _ id ∙ s.1,
        t.2 ∙ drop_more run run₀ count _ m s.2,
        ap (λ (x : List ℤ). seen_all x (drop (i + 1) ids)) t.1 ∙ next_id id h e,
      )

  -- what the run holds in the end, and how many of it are used
  answers : (b : Bool) → take (length run₀) final ≡ take count run → b ≡ ltb (length run₀) (length final)
      → (record { used = count; full = b } ≡ seen_of (length run₀) final) × (run ≡ run_after run₀ final)
  unfolding seen_of run_after
  answers b t f =
      let n = length-take-le count run s.0 in
      let m : count ≡ length (take (length run₀) final) = sym n ∙ ap length (sym t) in (
        λ j. record { used = m j; full = f j },
        over_front run run₀ count s.0 s.2 ∙ ap (λ (x : List ℤ). over x run₀) (sym t),
      )

  pub stops : (id : ℤ) (o : Lookup) (at : ℕ) → i < length ids → get_or ids i (pos 0) ≡ id → o ≡ seek_of (take count run) id → at ≡ place_of o count → length run ≤ at
      → (record { used = length run₀; full = true } ≡ seen_of (length run₀) final) × (run ≡ run_after run₀ final)
  stops id o at h e q p l =
      let f = full_run run count id s.0 (subst (λ (n : ℕ). length run ≤ n) (p ∙ ap (λ (x : Lookup). place_of x count) q) l) in
      let c = f.0 in
      let a : seen_all (run ++ (id ∷ [])) (drop (i + 1) ids) ≡ final = ap (λ (x : List ℤ). seen_all x (drop (i + 1) ids)) (sym f.1) ∙ next_id id h e in
      let n = length-append run (id ∷ []) in
      let m : length (run ++ (id ∷ [])) ≤ length final = subst (λ (x : List ℤ). length (run ++ (id ∷ [])) ≤ length x) a (all_long (run ++ (id ∷ [])) (drop (i + 1) ids)) in
      let w = s.1 in
      let starts : take (length run₀) final ≡ run =
      ap (λ (k : ℕ). take k final) (sym w)
      ∙ (ap (take (length run)) (sym a) ∙ (starts_with (run ++ (id ∷ [])) (drop (i + 1) ids) (length run) (omega arith) ∙ take_at run (id ∷ []) (length run) refl)) in
      let e = answers true (starts ∙ sym (take_all count run (omega arith))) (sym (lt-ltb (length run₀) (length final) (omega arith))) in
      let u : length run₀ ≡ count = omega arith in
      (ap (λ (n : ℕ). record { used = n; full = true }) u ∙ e.0, e.1)

  pub ends : i ≡ length ids → (record { used = count; full = false } ≡ seen_of (length run₀) final) × (run ≡ run_after run₀ final)
  unfolding seen_all
  ends e =
      let g : length ids ≤ i = omega arith in
      let z : drop i ids ≡ [] = drop_of_length-le ids g in
      let a : take count run ≡ final = rw z at s.3 in
      let n = length-take-le count run s.0 in
      let m : length final ≡ count = ap length (sym a) ∙ n in
      let w = s.1 in
      let k = s.0 in
      answers false (take_all (length run₀) final (omega arith) ∙ sym a) (sym (le-ltb (length run₀) (length final) (omega arith)))

-- ---- what an answer says of the list
pub says_full : (room : ℕ) (l : List ℤ) (s : Seen) → s ≡ seen_of room l → s.full ≡ true → ltb room (length l) ≡ true
unfolding seen_of
says_full room l s e f = sym (ap (λ (x : Seen). x.full) e) ∙ f

pub says_fits : (run l : List ℤ) (s : Seen) → s ≡ seen_of (length run) l → s.full ≡ false
    → (ltb (length run) (length l) ≡ false) × (s.used ≡ length l) × (run_after run l ≡ over l run)
unfolding seen_of run_after
says_fits run l s e f =
    let a : ltb (length run) (length l) ≡ false = sym (ap (λ (x : Seen). x.full) e) ∙ f in
    let b = take_all (length run) l (ltb-false (length run) (length l) a) in
    (a, ap (λ (x : Seen). x.used) e ∙ ap length b, ap (λ (x : List ℤ). over x run) b)
