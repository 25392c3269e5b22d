-- sort_of keeps the promise of an ascending sort, and no other list does. Assumes nothing.
use mathlib.Core.Path.{◌≡◌, refl, sym, ap, ◌∙◌, subst}
use mathlib.Core.Bool.{Bool, true, false, not, ◌&&◌, cond, true≢false, false≢true}
use mathlib.Core.List.{List, [], ◌∷◌, ◌++◌, append_assoc, append-nil}
use Prim.Native.Nat.{ℕ}
use native.Mathlib.Omega.{arith}
use lib.Ieee.{Float, lt, is_nan}
use Rattle.floats.proofs.Order.{not_below_trans, irreflexive, asymmetric, below_more}
use Rattle.sorting.specs.Order.{Each, Numbers, key_of, ascending, Sorted, tied, ties, StableSort}
use Rattle.sorting.specs.Sort.{put, put_all, sort_of}
use Rattle.sorting.proofs.Permutes.{each_permuted, permutes, each_still}

-- ---- ties
tied_not : (x y : Float) → lt x y ≡ true → tied x y ≡ false
tied_not x y e = rw e refl

tied_both : (x y : Float) → lt x y ≡ false → lt y x ≡ false → tied x y ≡ true
tied_both x y e f = rw (e, f) refl

pub tied_above : (x y : Float) → tied x y ≡ true → lt y x ≡ false
tied_above x y e = go (lt y x) refl
  where
    last : (a : Bool) → (a && false) ≡ true → ⊥
    last true q = false≢true q
    last false q = false≢true q

    go : (b : Bool) → lt y x ≡ b → lt y x ≡ false
    go false q = q
    go true q = absurd (last (not (lt x y)) (rw q at e))

-- x not above k, and k below y: x is below y, where x is a number
pub not_above_below : (x k y : Float) → is_nan x ≡ false → lt k x ≡ false → lt k y ≡ true → lt x y ≡ true
not_above_below x k y h e f = go (lt x y) refl
  where
    go : (b : Bool) → lt x y ≡ b → lt x y ≡ true
    go true q = q
    go false q = absurd (true≢false (sym f ∙ not_below_trans x y k h q e))

pub over : (b : Bool) (j : ℕ) (t s : List ℕ) → cond b (j ∷ t) t ++ s ≡ cond b (j ∷ (t ++ s)) (t ++ s)
over true j t s = refl
over false j t s = refl

cancel : (b : Bool) (k : ℕ) (l m : List ℕ) → cond b (k ∷ l) l ≡ cond b (k ∷ m) m → l ≡ m
cancel true k l m e = cc
cancel false k l m e = e

nil-not-cons : (k : ℕ) (l : List ℕ) → ◌≡◌ {A = List ℕ} [] (k ∷ l) → ⊥
nil-not-cons k l e = let z : ◌≡◌ {A = ℕ} 0 1 = cc in omega arith

module _ (keys : List Float) where
  -- no entry's key is below x
  abbrev pub NoneBelow : Float → List ℕ → Type 0
  NoneBelow x l = Each (λ j. lt (key_of keys j) x ≡ false) l

  pub ties_in : (x : Float) (k : ℕ) (l : List ℕ) → tied x (key_of keys k) ≡ true → ties keys x (k ∷ l) ≡ k ∷ ties keys x l
  unfolding ties
  ties_in x k l e = rw e refl

  pub ties_out : (x : Float) (k : ℕ) (l : List ℕ) → tied x (key_of keys k) ≡ false → ties keys x (k ∷ l) ≡ ties keys x l
  unfolding ties
  ties_out x k l e = rw e refl

  ties_self : (k : ℕ) (l : List ℕ) → ties keys (key_of keys k) (k ∷ l) ≡ k ∷ ties keys (key_of keys k) l
  ties_self k l = let i = irreflexive (key_of keys k) in ties_in (key_of keys k) k l (tied_both (key_of keys k) (key_of keys k) i i)

  -- none ties with what is below them all
  pub ties_none : (x y : Float) (l : List ℕ) → lt x y ≡ true → NoneBelow y l → Numbers keys l → ties keys x l ≡ []
  unfolding ties
  ties_none x y [] e h n = refl
  ties_none x y (k ∷ l) e h n =
      ties_out x k l (tied_not x (key_of keys k) (below_more x y (key_of keys k) n.0 e h.0)) ∙ ties_none x y l e h.1 n.1

  -- what is above x is above what x is not below
  pub lower : (x y : Float) (m : List ℕ) → is_nan y ≡ false → lt y x ≡ false → NoneBelow y m → NoneBelow x m
  lower x y [] h e n = tt
  lower x y (k ∷ m) h e n = (not_below_trans y x (key_of keys k) h e n.0, lower x y m h e n.1)

  -- ---- one answer only
  abbrev Same : List ℕ → List ℕ → Type 0
  Same l m = (x : Float) → is_nan x ≡ false → ties keys x l ≡ ties keys x m

  heads : (a b : ℕ) (l m : List ℕ) → Numbers keys (a ∷ l) → Numbers keys (b ∷ m) → Sorted ascending keys (b ∷ m) → Same (a ∷ l) (b ∷ m) → lt (key_of keys a) (key_of keys b) ≡ false
  heads a b l m n o t e = go (lt (key_of keys a) (key_of keys b)) refl
    where
      go : (c : Bool) → lt (key_of keys a) (key_of keys b) ≡ c → lt (key_of keys a) (key_of keys b) ≡ false
      go false q = q
      go true q = absurd
          (nil-not-cons a (ties keys (key_of keys a) l)
          (sym (ties_none (key_of keys a) (key_of keys b) (b ∷ m) q (irreflexive (key_of keys b), t.0) o) ∙ sym (e (key_of keys a) n.0) ∙ ties_self a l))

  same_tail : (a : ℕ) (l m : List ℕ) → Same (a ∷ l) (a ∷ m) → Same l m
  unfolding ties
  same_tail a l m e x h = cancel (tied x (key_of keys a)) a (ties keys x l) (ties keys x m) (e x h)

  unique : (l m : List ℕ) → Numbers keys l → Numbers keys m → Sorted ascending keys l → Sorted ascending keys m → Same l m → l ≡ m
  unfolding ties
  unique [] [] n o s t e = refl
  unique [] (b ∷ m) n o s t e = absurd (nil-not-cons b (ties keys (key_of keys b) m) (e (key_of keys b) o.0 ∙ ties_self b m))
  unique (a ∷ l) [] n o s t e = absurd (nil-not-cons a (ties keys (key_of keys a) l) (sym (e (key_of keys a) n.0) ∙ ties_self a l))
  unique (a ∷ l) (b ∷ m) n o s t e = end same (unique l m n.1 o.1 s.1 t.1)
    where
      ab : lt (key_of keys a) (key_of keys b) ≡ false
      ab = heads a b l m n o t e

      ba : lt (key_of keys b) (key_of keys a) ≡ false
      ba = heads b a m l o n s (λ x h. sym (e x h))

      front : a ∷ ties keys (key_of keys a) l ≡ b ∷ ties keys (key_of keys a) m
      front = sym (ties_self a l) ∙ e (key_of keys a) n.0 ∙ ties_in (key_of keys a) b m (tied_both (key_of keys a) (key_of keys b) ab ba)

      same : a ≡ b
      same = cc front

      end : a ≡ b → (Same l m → l ≡ m) → a ∷ l ≡ b ∷ m
      end q rest = let r : l ≡ m = rest (same_tail a l m (subst (λ (k : ℕ). Same (a ∷ l) (k ∷ m)) (sym q) e)) in cc

  -- ---- an entry put in
  within : (x : Float) (k : ℕ) (m : List ℕ) → lt (key_of keys k) x ≡ false → NoneBelow x m → NoneBelow x (put keys k m)
  unfolding put
  within x k [] h n = (h, tt)
  within x k (j ∷ m) h n = go (lt (key_of keys k) (key_of keys j)) (within x k m h n.1)
    where
      go : (b : Bool) → NoneBelow x (put keys k m) → NoneBelow x (cond b (k ∷ (j ∷ m)) (j ∷ put keys k m))
      go true r = (h, n)
      go false r = (n.0, r)

  put_numbers : (k : ℕ) (m : List ℕ) → is_nan (key_of keys k) ≡ false → Numbers keys m → Numbers keys (put keys k m)
  unfolding put
  put_numbers k [] h n = (h, tt)
  put_numbers k (j ∷ m) h n = go (lt (key_of keys k) (key_of keys j)) (put_numbers k m h n.1)
    where
      go : (b : Bool) → Numbers keys (put keys k m) → Numbers keys (cond b (k ∷ (j ∷ m)) (j ∷ put keys k m))
      go true r = (h, n)
      go false r = (n.0, r)

  put_sorted : (k : ℕ) (m : List ℕ) → Numbers keys m → Sorted ascending keys m → Sorted ascending keys (put keys k m)
  unfolding put
  put_sorted k [] n s = (tt, tt)
  put_sorted k (j ∷ m) n s = go (lt (key_of keys k) (key_of keys j)) refl (put_sorted k m n.1 s.1)
    where
      go : (b : Bool) → lt (key_of keys k) (key_of keys j) ≡ b → Sorted ascending keys (put keys k m) → Sorted ascending keys (cond b (k ∷ (j ∷ m)) (j ∷ put keys k m))
      go true q r =
          let a = asymmetric (key_of keys k) (key_of keys j) q in
          ((a, lower (key_of keys k) (key_of keys j) m n.0 a s.0), s)
      go false q r = (within (key_of keys j) k m q s.0, r)

  put-ties : (x : Float) (k : ℕ) (m : List ℕ) → is_nan x ≡ false → Numbers keys m → Sorted ascending keys m → ties keys x (put keys k m) ≡ ties keys x m ++ ties keys x (k ∷ [])
  unfolding put ties
  put-ties x k [] h n s = refl
  put-ties x k (j ∷ m) h n s = go (lt (key_of keys k) (key_of keys j)) refl (put-ties x k m h n.1 s.1)
    where
      first : (b : Bool) → tied x (key_of keys k) ≡ b → lt (key_of keys k) (key_of keys j) ≡ true → ties keys x (k ∷ (j ∷ m)) ≡ ties keys x (j ∷ m) ++ ties keys x (k ∷ [])
      first true p q =
          let z : ties keys x (j ∷ m) ≡ [] =
          ties_none x (key_of keys j) (j ∷ m) (not_above_below x (key_of keys k) (key_of keys j) h (tied_above x (key_of keys k) p) q) (irreflexive (key_of keys j), s.0) n in
          ties_in x k (j ∷ m) p ∙ ap (λ (t : List ℕ). k ∷ t) z ∙ sym (ties_in x k [] p) ∙ ap (λ (t : List ℕ). t ++ ties keys x (k ∷ [])) (sym z)
      first false p q =
          ties_out x k (j ∷ m) p ∙ sym (append-nil (ties keys x (j ∷ m))) ∙ ap (λ (t : List ℕ). ties keys x (j ∷ m) ++ t) (sym (ties_out x k [] p))

      go : (b : Bool) → lt (key_of keys k) (key_of keys j) ≡ b → ties keys x (put keys k m) ≡ ties keys x m ++ ties keys x (k ∷ [])
          → ties keys x (cond b (k ∷ (j ∷ m)) (j ∷ put keys k m)) ≡ ties keys x (j ∷ m) ++ ties keys x (k ∷ [])
      go true q r = first (tied x (key_of keys k)) refl q
      go false q r =
          ap (λ (t : List ℕ). cond (tied x (key_of keys j)) (j ∷ t) t) r ∙ sym (over (tied x (key_of keys j)) j (ties keys x m) (ties keys x (k ∷ [])))

  -- ---- all of them
  ties-cons : (x : Float) (k : ℕ) (l : List ℕ) → ties keys x (k ∷ []) ++ ties keys x l ≡ ties keys x (k ∷ l)
  unfolding ties
  ties-cons x k l = over (tied x (key_of keys k)) k [] (ties keys x l)

  all_sorted : (l m : List ℕ) → Numbers keys l → Numbers keys m → Sorted ascending keys m → Sorted ascending keys (put_all keys l m)
  unfolding put_all
  all_sorted [] m n o s = s
  all_sorted (k ∷ l) m n o s = all_sorted l (put keys k m) n.1 (put_numbers k m n.0 o) (put_sorted k m o s)

  all_ties : (x : Float) (l m : List ℕ) → is_nan x ≡ false → Numbers keys l → Numbers keys m → Sorted ascending keys m → ties keys x (put_all keys l m) ≡ ties keys x m ++ ties keys x l
  unfolding put_all ties
  all_ties x [] m h n o s = sym (append-nil (ties keys x m))
  all_ties x (k ∷ l) m h n o s =
      all_ties x l (put keys k m) h n.1 (put_numbers k m n.0 o) (put_sorted k m o s)
      ∙ ap (λ (t : List ℕ). t ++ ties keys x l) (put-ties x k m h o s)
      ∙ append_assoc (ties keys x m) (ties keys x (k ∷ [])) (ties keys x l)
      ∙ ap (λ (t : List ℕ). ties keys x m ++ t) (ties-cons x k l)

  pub still_numbers : (l : List ℕ) → Numbers keys l → Numbers keys (sort_of keys l)
  still_numbers l n = each_still keys (λ k. is_nan (key_of keys k) ≡ false) l n

  -- SORTED: sort_of keeps the promise, where every entry's key is a number
  pub sorts : (l : List ℕ) → Numbers keys l → StableSort ascending keys l (sort_of keys l)
  unfolding sort_of ties
  sorts l n = record { permuted = permutes keys l; sorted = all_sorted l [] n tt tt; stable = λ x h. all_ties x l [] h n tt tt }

  -- ONE SORT: any two lists that keep it are the same
  pub one_sort : (l m m' : List ℕ) → Numbers keys l → StableSort ascending keys l m → StableSort ascending keys l m' → m ≡ m'
  one_sort l m m' n a b =
      let p = each_permuted (λ k. is_nan (key_of keys k) ≡ false) in
      unique m m' (p l m a.permuted n) (p l m' b.permuted n) a.sorted b.sorted (λ x h. a.stable x h ∙ sym (b.stable x h))

  -- so a list that keeps it is sort_of: what another way to sort has to show
  pub only : (l m : List ℕ) → Numbers keys l → StableSort ascending keys l m → m ≡ sort_of keys l
  only l m n a = one_sort l m (sort_of keys l) n a (sorts l n)
