-- Going over indices. Assumes nothing.
use Prim.Native.Nat.{ℕ, zero, suc, ◌+◌, ◌<◌, ◌≤◌}
use mathlib.Core.Path.{◌≡◌, refl, sym, ap, ◌∙◌, subst}
use mathlib.Core.Bool.{Bool, true, false, true≢false, ◌||◌}
use mathlib.Core.Logic.{◌⊎◌, inl, inr, ⊎_elim}
use native.Mathlib.Omega.{arith}
use lib.ListN.{replicate}
use native.Mathlib.Nat.{eq-or-lt_of_le, not-suc-le-zero}
use native.Mathlib.Numerals.{add-one}
use native.Mathlib.Decide.{dec_lt, ℕ_discrete}
use Rattle.square.specs.Index.{loop, any, on}
use Rattle.square.proofs.Truth.{dec}

-- ---- two indices
pub last_or_before : {i k : ℕ} → i < suc k → (i ≡ k) ⊎ (i < k)
last_or_before {i} {k} h = eq-or-lt_of_le (omega arith)

pub lt-or-ge : (a b : ℕ) → (a < b) ⊎ (b ≤ a)
lt-or-ge a b = elim (dec_lt a b) [ yes p ↦ inl p | no p ↦ inr (omega arith) ]

pub eq-or-not : (a b : ℕ) → (a ≡ b) ⊎ (a ≡ b → ⊥)
eq-or-not a b = elim (ℕ_discrete a b) [ yes p ↦ inl p | no p ↦ inr p ]

-- ---- what holds below k
pub below_none : (P : ℕ → Type 0) → (i : ℕ) → i < 0 → P i
below_none P i l = absurd (not-suc-le-zero l)

pub below_more : (k : ℕ) (P : ℕ → Type 0) → ((i : ℕ) → i < k → P i) → P k → (i : ℕ) → i < suc k → P i
below_more k P old here i l = ⊎_elim (λ (e : i ≡ k). subst P (sym e) here) (λ (l' : i < k). old i l') (last_or_before l)

-- ---- loops
-- the code's next turn
pub loop_more : {A : Type 0} (k : ℕ) (f : ℕ → A → A) (a : A) → loop (k + 1) f a ≡ f k (loop k f a)
unfolding loop
loop_more k f a = rw (add-one k)

-- a loop whose turns change nothing from k₀ on
pub loop_stable : {A : Type 0} (f : ℕ → A → A) (a : A) (k₀ : ℕ) → ((i : ℕ) → k₀ ≤ i → f i (loop k₀ f a) ≡ loop k₀ f a) → (k : ℕ) → k₀ ≤ k → loop k f a ≡ loop k₀ f a
unfolding loop
loop_stable f a k₀ h zero le = let e : 0 ≡ k₀ = omega arith in ap (λ (x : ℕ). loop x f a) e
loop_stable f a k₀ h (suc k) le = ⊎_elim
    (λ (e : k₀ ≡ suc k). ap (λ (x : ℕ). loop x f a) (sym e))
    (λ (l : k₀ < suc k). let le' : k₀ ≤ k = omega arith in ap (f k) (loop_stable f a k₀ h k le') ∙ h k le')
    (eq-or-lt_of_le le)

-- turns that do the same
pub loop_same : {A : Type 0} (k : ℕ) (f g : ℕ → A → A) (a : A) → ((i : ℕ) → i < k → (x : A) → f i x ≡ g i x) → loop k f a ≡ loop k g a
unfolding loop
loop_same zero f g a h = refl
loop_same (suc k) f g a h = h k (omega arith) (loop k f a) ∙ ap (g k) (loop_same k f g a (λ i l. h i (omega arith)))

-- what every turn keeps
pub loop_keeps : {A : Type 0} (P : A → Type 0) (k : ℕ) (f : ℕ → A → A) → ((i : ℕ) → i < k → (x : A) → P x → P (f i x)) → (a : A) → P a → P (loop k f a)
unfolding loop
loop_keeps P zero f h a p = p
loop_keeps P (suc k) f h a p = h k (omega arith) (loop k f a) (loop_keeps P k f (λ i l. h i (omega arith)) a p)

-- ---- the first index that passes, or none
abbrev pub First : ℕ → (ℕ → Bool) → Type 0
First k F = (i : ℕ) × (i < k) × (F i ≡ true) × ((x : ℕ) → x < i → F x ≡ false)

abbrev pub None : ℕ → (ℕ → Bool) → Type 0
None k F = (x : ℕ) → x < k → F x ≡ false

pub first : (k : ℕ) (F : ℕ → Bool) → First k F ⊎ None k F
first zero F = inr (below_none (λ x. F x ≡ false))
first (suc k) F = ⊎_elim
    (λ (w : First k F). inl (w.0, omega (arith, w.1), w.2, w.3))
    (λ (h : None k F). ⊎_elim (λ (e : F k ≡ true). inl (k, omega arith, e, h)) (λ (e : F k ≡ false). inr (below_more k (λ x. F x ≡ false) h e)) (dec (F k)))
    (first k F)

-- ---- whether one passes
pub or_left : (a b : Bool) → a ≡ true → (a || b) ≡ true
or_left a b e = rw e

pub or_right : (a b : Bool) → b ≡ true → (a || b) ≡ true
or_right true b e = refl
or_right false b e = e

pub or_cases : (a b : Bool) → (a || b) ≡ true → (a ≡ true) ⊎ (b ≡ true)
or_cases true b e = inl refl
or_cases false b e = inr e

or_neither : (a b : Bool) → (a || b) ≡ false → (a ≡ false) × (b ≡ false)
or_neither true b e = absurd (true≢false e)
or_neither false b e = (refl, e)

-- the code's next turn
pub any_more : (k : ℕ) (F : ℕ → Bool) → any (k + 1) F ≡ (F k || any k F)
unfolding any
any_more k F = rw (add-one k)

pub any-zero : (F : ℕ → Bool) → any 0 F ≡ false
unfolding any
any-zero F = refl

pub any_intro : (k : ℕ) (F : ℕ → Bool) (i : ℕ) → i < k → F i ≡ true → any k F ≡ true
unfolding any
any_intro zero F i l h = absurd (not-suc-le-zero l)
any_intro (suc k) F i l h = ⊎_elim
    (λ (e : i ≡ k). rw (subst (λ (x : ℕ). F x ≡ true) e h))
    (λ (l' : i < k). or_right (F k) (any k F) (any_intro k F i l' h))
    (last_or_before l)

pub any_elim : (k : ℕ) (F : ℕ → Bool) → any k F ≡ true → (i : ℕ) × (i < k) × (F i ≡ true)
unfolding any
any_elim zero F h = absurd (true≢false (sym h))
any_elim (suc k) F h = ⊎_elim
    (λ (e : F k ≡ true). (k, omega arith, e))
    (λ (r : any k F ≡ true). let w = any_elim k F r in (w.0, omega (arith, w.1), w.2))
    (or_cases (F k) (any k F) h)

pub any_none : (k : ℕ) (F : ℕ → Bool) → any k F ≡ false → None k F
unfolding any
any_none zero F e = below_none (λ x. F x ≡ false)
any_none (suc k) F e = let w = or_neither (F k) (any k F) e in below_more k (λ x. F x ≡ false) (any_none k F w.1) w.0

-- ---- no marks
pub off : (k i : ℕ) → on (replicate k false) i ≡ false
off zero i = refl
off (suc k) zero = refl
off (suc k) (suc i) = off k i
