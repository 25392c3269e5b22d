-- What stands where, after a line or the whole square was gone over; the running minimum. Assumes nothing.
use Prim.Native.Nat.{ℕ, zero, suc, ◌+◌, ◌*◌, ◌<◌, ◌≤◌}
use mathlib.Core.Path.{◌≡◌, refl, sym, ap, ◌∙◌, subst}
use mathlib.Core.Bool.{Bool, true, false, cond}
use mathlib.Core.List.{List}
use mathlib.Core.Logic.{◌⊎◌, inl, inr, ⊎_elim}
use native.Mathlib.Omega.{arith}
use native.Mathlib.Nat.{not-suc-le-zero}
use lib.ListN.{length, get_or, set, length-set}
use lib.Seq.{get_or-set_same, get_or-set_other}
use lib.Ieee.{Float, nan, lt, is_nan}
use Rattle.floats.specs.Float.{min_of}
use Rattle.square.specs.Square.{in_row, at, least, line, over}
use Rattle.square.proofs.Index.{last_or_before, loop_more, loop_same}

-- ---- along one line
module _ (p : ℕ → ℕ) (f : ℕ → Float → Float) where
  pub line_none : (c : List Float) → c ≡ line p 0 f c
  unfolding line
  line_none c = refl

  -- the code's next turn
  pub line_more : (k : ℕ) (c₀ c c' : List Float) → c ≡ line p k f c₀ → c' ≡ set c (p k) (f k (get_or c (p k) nan)) → c' ≡ line p (k + 1) f c₀
  unfolding line
  line_more k c₀ c c' v e = e ∙ ap (λ (c : List Float). set c (p k) (f k (get_or c (p k) nan))) v ∙ sym (loop_more k (λ t c. set c (p t) (f t (get_or c (p t) nan))) c₀)

  pub line_same : (g : ℕ → Float → Float) (k : ℕ) (c : List Float) → ((t : ℕ) → t < k → (x : Float) → f t x ≡ g t x) → line p k f c ≡ line p k g c
  unfolding line
  line_same g k c h = loop_same k _ _ c (λ t l x. ap (set x (p t)) (h t l (get_or x (p t) nan)))

  pub line-length : (k : ℕ) (c : List Float) → length (line p k f c) ≡ length c
  unfolding line
  line-length zero c = refl
  line-length (suc k) c = length-set (line p k f c) (p k) _ ∙ line-length k c

  pub line_other : (k : ℕ) (c : List Float) (x : ℕ) → ((t : ℕ) → t < k → x ≡ p t → ⊥) → get_or (line p k f c) x nan ≡ get_or c x nan
  unfolding line
  line_other zero c x h = refl
  line_other (suc k) c x h = get_or-set_other (line p k f c) (p k) x _ nan (λ e. h k (omega arith) e) ∙ line_other k c x (λ t l. h t (omega arith))

  -- where no place comes twice
  pub line_at : (k : ℕ) (c : List Float) → ((t t' : ℕ) → t < k → t' < k → p t ≡ p t' → t ≡ t') → (t : ℕ) → t < k → p t < length c
      → get_or (line p k f c) (p t) nan ≡ f t (get_or c (p t) nan)
  unfolding line
  line_at zero c one t l r = absurd (not-suc-le-zero l)
  line_at (suc k) c one t l r = ⊎_elim
      (λ (e : t ≡ k). subst (λ (t : ℕ). get_or (set (line p k f c) (p k) (f k (get_or (line p k f c) (p k) nan))) (p t) nan ≡ f t (get_or c (p t) nan)) (sym e)
      (get_or-set_same (line p k f c) (p k) _ nan (subst (λ (x : ℕ). p x < length (line p k f c)) e (omega (arith, line-length k c)))
      ∙ ap (f k) (line_other k c (p k) (λ t' l' q. absurd (omega (arith, one k t' (omega arith) (omega arith) q))))))
      (λ (l' : t < k). get_or-set_other (line p k f c) (p k) (p t) _ nan (λ q. absurd (omega (arith, one t k (omega arith) (omega arith) q)))
      ∙ line_at k c (λ a b la lb. one a b (omega arith) (omega arith)) t l' r)
      (last_or_before l)

-- ---- over the square
module _ (w : ℕ) (f : ℕ → ℕ → Float → Float) where
  pub over_none : (c : List Float) → c ≡ over 0 w f c
  unfolding over
  over_none c = refl

  pub over_more : (k : ℕ) (c₀ c c' : List Float) → c ≡ over k w f c₀ → c' ≡ line (in_row k) w (f k) c → c' ≡ over (k + 1) w f c₀
  unfolding over
  over_more k c₀ c c' v e = e ∙ ap (λ (c : List Float). line (in_row k) w (f k) c) v ∙ sym (loop_more k (λ i. line (in_row i) w (f i)) c₀)

  pub over_end : (k h : ℕ) (c₀ c : List Float) → k ≡ h → c ≡ over k w f c₀ → c ≡ over h w f c₀
  over_end k h c₀ c e v = subst (λ (x : ℕ). c ≡ over x w f c₀) e v

  pub over-length : (k : ℕ) (c : List Float) → length (over k w f c) ≡ length c
  unfolding over
  over-length zero c = refl
  over-length (suc k) c = line-length (in_row k) (f k) w (over k w f c) ∙ over-length k c

  module _ (w64 : w ≤ 64) where
    pub over_other : (k : ℕ) (c : List Float) (i j : ℕ) → j < 64 → (i < k → j < w → ⊥) → at (over k w f c) i j ≡ at c i j
    unfolding over
    over_other zero c i j lj h = refl
    over_other (suc k) c i j lj h =
        line_other (in_row k) (f k) w (over k w f c) (i * 64 + j) (λ t l e. h (omega arith) (omega arith)) ∙ over_other k c i j lj (λ l l'. h (omega arith) l')

    pub over-at : (k : ℕ) (c : List Float) → k * 64 ≤ length c → (i j : ℕ) → i < k → j < w → at (over k w f c) i j ≡ f i j (at c i j)
    unfolding over
    over-at zero c fits i j li lj = absurd (not-suc-le-zero li)
    over-at (suc k) c fits i j li lj = ⊎_elim
        (λ (e : i ≡ k). subst (λ (x : ℕ). at (over (suc k) w f c) x j ≡ f x j (at c x j)) (sym e)
        (line_at (in_row k) (f k) w (over k w f c) (λ a b _ _ q. omega arith) j lj (omega (arith, over-length k c))
        ∙ ap (f k j) (over_other k c k j (omega arith) (λ l _. omega arith))))
        (λ (l : i < k). line_other (in_row k) (f k) w (over k w f c) (i * 64 + j) (λ t lt e. omega arith) ∙ over-at k c (omega arith) i j l lj)
        (last_or_before li)

-- ---- the running minimum
pub least_new : (m x m' : Float) → m' ≡ x → lt x m ≡ true → m' ≡ least m x
unfolding least
least_new m x m' e l = rw l e

pub least_old : (m x m' : Float) → m' ≡ m → lt x m ≡ false → m' ≡ least m x
unfolding least
least_old m x m' e l = rw l e

pub least_cases : (m x : Float) → (least m x ≡ m) ⊎ (least m x ≡ x)
unfolding least
least_cases m x = go (lt x m)
  where
    go : (b : Bool) → (cond b x m ≡ m) ⊎ (cond b x m ≡ x)
    go true = inr refl
    go false = inl refl

-- a minimum that began at +infinity is a number, and then this is f64::min
pub least_is_min : (m x : Float) → is_nan m ≡ false → least m x ≡ min_of m x
unfolding least min_of
least_is_min m x h = rw h
