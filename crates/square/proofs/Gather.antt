-- What is gathered: where each that passes stands, that it rises, and when two gathered lists name each number once. Assumes nothing.
use Prim.Native.Nat.{ℕ, zero, suc, ◌+◌, ◌-◌, ◌<◌, ◌≤◌}
use mathlib.Core.Path.{◌≡◌, refl, sym, ap, ◌∙◌, subst}
use mathlib.Core.Bool.{Bool, true, false, cond}
use mathlib.Core.List.{List, [], ◌∷◌, ◌++◌, map, map-append}
use mathlib.Core.Logic.{◌⊎◌, inl, inr, ⊎_elim}
use native.Mathlib.Omega.{arith}
use native.Mathlib.Nat.{not-suc-le-zero}
use native.Mathlib.Numerals.{add-one}
use lib.ListN.{length, get_or, set, take, replicate, length-append, get_or-append}
use lib.Seq.{get_or-append_seam, get_or-append-add, take_at}
use Rattle.square.specs.Index.{count, gather, filled, Rising, Once}
use Rattle.square.proofs.Truth.{dec, not_both}
use Rattle.square.proofs.Index.{last_or_before, lt-or-ge, loop_same}
use Rattle.square.proofs.Count.{count-zero, count_yes, count_no, count_up, count_longer}

-- ---- one more
module _ {A : Type 0} (P : ℕ → Bool) (f : ℕ → A) where
  pub gather_yes : (k : ℕ) → P k ≡ true → gather (suc k) P f ≡ gather k P f ++ (f k ∷ [])
  unfolding gather
  gather_yes k e = rw e

  pub gather_no : (k : ℕ) → P k ≡ false → gather (suc k) P f ≡ gather k P f
  unfolding gather
  gather_no k e = rw e

  pub gather_none : gather 0 P f ≡ []
  unfolding gather
  gather_none = refl

  pub gather-length : (k : ℕ) → length (gather k P f) ≡ count k P
  gather-length zero = ap length gather_none ∙ sym (count-zero P)
  gather-length (suc k) = ⊎_elim
      (λ (e : P k ≡ true). ap length (gather_yes k e) ∙ omega (arith, length-append (gather k P f) (f k ∷ []), gather-length k, count_yes k P e))
      (λ (e : P k ≡ false). ap length (gather_no k e) ∙ omega (arith, gather-length k, count_no k P e))
      (dec (P k))

  -- what passes at i stands at the place that counts those before it
  pub gather_at : (k i : ℕ) (d : A) → i < k → P i ≡ true → get_or (gather k P f) (count i P) d ≡ f i
  gather_at zero i d l e = absurd (not-suc-le-zero l)
  gather_at (suc k) i d l e = ⊎_elim
      (λ (q : i ≡ k).
      ap (λ (x : ℕ). get_or (gather (suc k) P f) (count x P) d) q
      ∙ ap (λ (x : List A). get_or x (count k P) d) (gather_yes k (subst (λ (x : ℕ). P x ≡ true) q e))
      ∙ ap (λ (x : ℕ). get_or (gather k P f ++ (f k ∷ [])) x d) (sym (gather-length k))
      ∙ get_or-append_seam (gather k P f) (f k) [] d ∙ ap f (sym q))
      (λ (l' : i < k). earlier l' (dec (P k)) ∙ gather_at k i d l' e)
      (last_or_before l)
    where
      place : i < k → count i P < length (gather k P f)
      place l' = omega (arith, gather-length k, count_up P i k l' e)

      earlier : i < k → (P k ≡ true) ⊎ (P k ≡ false) → get_or (gather (suc k) P f) (count i P) d ≡ get_or (gather k P f) (count i P) d
      earlier l' w = ⊎_elim
          (λ (p : P k ≡ true). ap (λ (x : List A). get_or x (count i P) d) (gather_yes k p) ∙ get_or-append (gather k P f) (f k ∷ []) d (count i P) (place l'))
          (λ (p : P k ≡ false). ap (λ (x : List A). get_or x (count i P) d) (gather_no k p))
          w

-- every place is the place of one that passes
abbrev pub At : (ℕ → Bool) → ℕ → ℕ → Type 0
At P k t = (i : ℕ) × (i < k) × (P i ≡ true) × (count i P ≡ t)

pub which : (P : ℕ → Bool) (k t : ℕ) → t < count k P → At P k t
which P zero t l = absurd (not-suc-le-zero (subst (λ (x : ℕ). t < x) (count-zero P) l))
which P (suc k) t l = ⊎_elim
    (λ (e : P k ≡ true). ⊎_elim
    (λ (q : t ≡ count k P). (k, omega arith, e, sym q))
    (λ (l' : t < count k P). let w = which P k t l' in (w.0, omega (arith, w.1), w.2, w.3))
    (last_or_before (let z : t < suc (count k P) = omega (arith, count_yes k P e) in z)))
    (λ (e : P k ≡ false). let w = which P k t (omega (arith, count_no k P e)) in (w.0, omega (arith, w.1), w.2, w.3))
    (dec (P k))

-- ---- the indices themselves rise
abbrev pub those : ℕ → (ℕ → Bool) → List ℕ
those k P = gather k P (λ i. i)

pub rising : (k : ℕ) (P : ℕ → Bool) → Rising (those k P)
rising k P t t' l l' =
    let n = gather-length P (λ i. i) k in
    let a = which P k t (omega arith) in
    let b = which P k t' (omega arith) in
    let p : get_or (those k P) t 0 ≡ a.0 = subst (λ (x : ℕ). get_or (those k P) x 0 ≡ a.0) a.3 (gather_at P (λ i. i) k a.0 0 a.1 a.2) in
    let q : get_or (those k P) t' 0 ≡ b.0 = subst (λ (x : ℕ). get_or (those k P) x 0 ≡ b.0) b.3 (gather_at P (λ i. i) k b.0 0 b.1 b.2) in
    ⊎_elim
    (λ (u : a.0 < b.0). omega (arith, p, q))
    (λ (u : b.0 ≤ a.0). absurd (omega (arith, a.3, b.3, count_longer P b.0 a.0 u)))
    (lt-or-ge a.0 b.0)

-- ---- two gathered lists that name each number once: f of what passes P, and what passes Q
module _ (h w : ℕ) (P : ℕ → Bool) (f : ℕ → ℕ) (Q : ℕ → Bool) (f_in : (i : ℕ) → i < h → P i ≡ true → f i < w)
    (f_one : (i i' : ℕ) → i < h → i' < h → P i ≡ true → P i' ≡ true → f i ≡ f i' → i ≡ i')
    (cover : (j : ℕ) → j < w → Q j ≡ false → (i : ℕ) × (i < h) × (P i ≡ true) × (f i ≡ j))
    (apart : (i : ℕ) → i < h → P i ≡ true → Q (f i) ≡ false) where
  abbrev both : List ℕ
  both = gather h P f ++ those w Q

  abbrev Left : ℕ → Type 0
  Left t = (i : ℕ) × (i < h) × (P i ≡ true) × (count i P ≡ t) × (get_or both t 0 ≡ f i)

  abbrev Right : ℕ → Type 0
  Right t = (j : ℕ) × (j < w) × (Q j ≡ true) × (length (gather h P f) + count j Q ≡ t) × (get_or both t 0 ≡ j)

  size : length both ≡ count h P + count w Q
  size = omega (arith, length-append (gather h P f) (those w Q), gather-length P f h, gather-length Q (λ j. j) w)

  left_value : (i : ℕ) → i < h → P i ≡ true → get_or both (count i P) 0 ≡ f i
  left_value i l e =
      get_or-append (gather h P f) (those w Q) 0 (count i P) (omega (arith, gather-length P f h, count_up P i h l e)) ∙ gather_at P f h i 0 l e

  right_value : (j : ℕ) → j < w → Q j ≡ true → get_or both (length (gather h P f) + count j Q) 0 ≡ j
  right_value j l e = get_or-append-add (gather h P f) (those w Q) (count j Q) 0 ∙ gather_at Q (λ j. j) w j 0 l e

  spot : (t : ℕ) → t < length both → Left t ⊎ Right t
  spot t l = ⊎_elim
      (λ (a : t < count h P).
      let v = which P h t a in
      inl (v.0, v.1, v.2, v.3, subst (λ (x : ℕ). get_or both x 0 ≡ f v.0) v.3 (left_value v.0 v.1 v.2)))
      (λ (a : count h P ≤ t).
      let v = which Q w (t - count h P) (omega (arith, size)) in
      let e : length (gather h P f) + count v.0 Q ≡ t = omega (arith, v.3, gather-length P f h) in
      inr (v.0, v.1, v.2, e, subst (λ (x : ℕ). get_or both x 0 ≡ v.0) e (right_value v.0 v.1 v.2)))
      (lt-or-ge t (count h P))

  one : (t t' : ℕ) → Left t ⊎ Right t → Left t' ⊎ Right t' → get_or both t 0 ≡ get_or both t' 0 → t ≡ t'
  one t t' a b e = ⊎_elim
      (λ (x : Left t). ⊎_elim
      (λ (y : Left t'). sym x.3 ∙ ap (λ (i : ℕ). count i P) (f_one x.0 y.0 x.1 y.1 x.2 y.2 (sym x.4 ∙ e ∙ y.4)) ∙ y.3)
      (λ (y : Right t'). not_both (Q y.0) y.2 (subst (λ (j : ℕ). Q j ≡ false) (sym x.4 ∙ e ∙ y.4) (apart x.0 x.1 x.2)))
      b)
      (λ (x : Right t). ⊎_elim
      (λ (y : Left t'). not_both (Q x.0) x.2 (subst (λ (j : ℕ). Q j ≡ false) (sym y.4 ∙ sym e ∙ x.4) (apart y.0 y.1 y.2)))
      (λ (y : Right t'). sym x.3 ∙ ap (λ (j : ℕ). length (gather h P f) + count j Q) (sym x.4 ∙ e ∙ y.4) ∙ y.3)
      b)
      a

  -- EACH NUMBER ONCE
  pub once : Once w (gather h P f ++ those w Q)
  once = record {
    inside = λ t l. ⊎_elim
        (λ (x : Left t). subst (λ (v : ℕ). v < w) (sym x.4) (f_in x.0 x.1 x.2))
        (λ (x : Right t). subst (λ (v : ℕ). v < w) (sym x.4) x.1)
        (spot t l);
    each = λ j l. ⊎_elim
        (λ (e : Q j ≡ true). (length (gather h P f) + count j Q, omega (arith, size, gather-length P f h, count_up Q j w l e), right_value j l e))
        (λ (e : Q j ≡ false). let v = cover j l e in (count v.0 P, omega (arith, size, count_up P v.0 h v.1 v.2), left_value v.0 v.1 v.2 ∙ v.3))
        (dec (Q j));
    one = λ t t' l l' e. one t t' (spot t l) (spot t' l') e;
  }

-- ---- in 64 places
module _ {A : Type 0} (z : A) where
  set_seam : (l : List A) (x : A) (r : ℕ) → set (l ++ replicate (suc r) z) (length l) x ≡ (l ++ (x ∷ [])) ++ replicate r z
  set_seam [] x r = refl
  set_seam (y ∷ l) x r = ap (λ (k : List A). y ∷ k) (set_seam l x r)

  pub fill_one : (l : List A) (x : A) → length l < 64 → set (filled z l) (length l) x ≡ filled z (l ++ (x ∷ []))
  fill_one l x h =
      ap (λ (r : ℕ). set (l ++ replicate r z) (length l) x) (let e : 64 - length l ≡ suc (63 - length l) = omega arith in e) ∙ set_seam l x (63 - length l)
      ∙ ap (λ (r : ℕ). (l ++ (x ∷ [])) ++ replicate r z) (let e : 63 - length l ≡ 64 - length (l ++ (x ∷ [])) = omega (arith, length-append l (x ∷ [])) in e)

  module _ (P : ℕ → Bool) (f : ℕ → A) (k n : ℕ) (arr : List A) (v : arr ≡ filled z (gather k P f)) (c : n ≡ count k P) where
    -- the code's turn: one that passes is stored at the count
    pub fill_yes : n < 64 → P k ≡ true → set arr n (f k) ≡ filled z (gather (k + 1) P f)
    fill_yes l e =
        let len : n ≡ length (gather k P f) = c ∙ sym (gather-length P f k) in
        ap (λ (a : List A). set a n (f k)) v ∙ ap (λ (x : ℕ). set (filled z (gather k P f)) x (f k)) len
        ∙ fill_one (gather k P f) (f k) (omega arith) ∙ ap (filled z) (sym (gather_yes P f k e)) ∙ ap (λ (x : ℕ). filled z (gather x P f)) (sym (add-one k))

    pub fill_no : P k ≡ false → arr ≡ filled z (gather (k + 1) P f)
    fill_no e = v ∙ ap (filled z) (sym (gather_no P f k e)) ∙ ap (λ (x : ℕ). filled z (gather x P f)) (sym (add-one k))

pub count_next : (P : ℕ → Bool) (k n : ℕ) → n ≡ count k P → P k ≡ true → n + 1 ≡ count (k + 1) P
count_next P k n c e = subst (λ (x : ℕ). n + 1 ≡ count x P) (sym (add-one k)) (omega (arith, count_yes k P e))

pub count_stay : (P : ℕ → Bool) (k n : ℕ) → n ≡ count k P → P k ≡ false → n ≡ count (k + 1) P
count_stay P k n c e = subst (λ (x : ℕ). n ≡ count x P) (sym (add-one k)) (omega (arith, count_no k P e))

pub gather_same : {A : Type 0} (k : ℕ) (P Q : ℕ → Bool) (f : ℕ → A) → ((i : ℕ) → i < k → P i ≡ Q i) → gather k P f ≡ gather k Q f
unfolding gather
gather_same {A} k P Q f h = loop_same k _ _ [] (λ i l x. ap (λ (b : Bool). cond b (x ++ (f i ∷ [])) x) (h i l))

pub gather-map : {A B : Type 0} (g : A → B) (P : ℕ → Bool) (f : ℕ → A) (k : ℕ) → map g (gather k P f) ≡ gather k P (λ i. g (f i))
gather-map g P f zero = ap (map g) (gather_none P f) ∙ sym (gather_none P (λ i. g (f i)))
gather-map {A} {B} g P f (suc k) = ⊎_elim
    (λ (e : P k ≡ true). ap (map g) (gather_yes P f k e) ∙ map-append g (gather k P f) (f k ∷ []) ∙ ap (λ (l : List B). l ++ (g (f k) ∷ [])) (gather-map g P f k) ∙ sym (gather_yes P (λ i. g (f i)) k e))
    (λ (e : P k ≡ false). ap (map g) (gather_no P f k e) ∙ gather-map g P f k ∙ sym (gather_no P (λ i. g (f i)) k e))
    (dec (P k))

-- the used places are the list
pub take-filled : {A : Type 0} (z : A) (k : ℕ) (P : ℕ → Bool) (f : ℕ → A) → take (count k P) (filled z (gather k P f)) ≡ gather k P f
take-filled z k P f = take_at (gather k P f) (replicate (64 - length (gather k P f)) z) (count k P) (gather-length P f k)
