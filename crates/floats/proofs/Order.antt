-- The order on the floats that are numbers: total and transitive. Assumes nothing.
use mathlib.Core.Path.{◌≡◌, refl, sym, ap, ◌∙◌, subst}
use mathlib.Core.Bool.{Bool, true, false, not, ◌&&◌, ◌||◌, beq, true≢false, false≢true}
use mathlib.Core.Logic.{◌⊎◌, inl, inr}
use Prim.Native.Nat.{ℕ, zero, suc, ◌<◌, ◌≤◌, ◌+◌, ◌*◌}
use native.Mathlib.Omega.{arith}
use native.Mathlib.Nat.{mul-pos, zero-mul, mul-le-mul_right, mul_assoc, mul_comm, le_of_mul-le-mul_right, le_trans}
use borrow.Author.Tests.{le-ltb, lt-ltb, ltb-false, ltb-true, eqb-true, ne_eqb, eq-eqb}
use lib.Dec.{ltb, eqb}
use lib.Ieee.{Float, nan, inf, fin, lt, eq, le, below, level, is_nan, up, down}
use lib.Ieee.Fits.{down_pos}

-- ---- three signed fractions, by their cross products
-- A/p ≤ B/q and B/q ≤ C/r give A/p ≤ C/r
chain : (A B C p q r : ℕ) → 0 < q → A * q ≤ B * p → B * r ≤ C * q → A * r ≤ C * p
chain A B C p q r h e f = le_of_mul-le-mul_right {k = q} (subst (λ (k : ℕ). k ≤ C * p * q) (swap A q r) (le_trans first second)) h
  where
    swap : (x y z : ℕ) → x * y * z ≡ x * z * y
    swap x y z = mul_assoc x y z ∙ ap (λ (k : ℕ). x * k) (mul_comm y z) ∙ sym (mul_assoc x z y)

    first : A * q * r ≤ B * r * p
    first = subst (λ (k : ℕ). A * q * r ≤ k) (swap B p r) (mul-le-mul_right r e)

    second : B * r * p ≤ C * p * q
    second = subst (λ (k : ℕ). B * r * p ≤ k) (swap C q p) (mul-le-mul_right p f)

pub zero_of : (a q : ℕ) → 0 < q → a * q ≡ 0 → a ≡ 0
zero_of zero q h e = refl
zero_of (suc a) q h e = let p : 0 < suc a * q = mul-pos {m = suc a} {n = q} (let z : 0 < suc a = omega arith in z) h in absurd (omega arith)

-- no quotient without what it is a quotient of
vanish : (a q r : ℕ) → 0 < q → a * q ≡ 0 → a * r ≡ 0
vanish a q r h e = ap (λ (k : ℕ). k * r) (zero_of a q h e) ∙ zero-mul r

fractions : (s t u : Bool) (A B C p q r : ℕ) → 0 < p → 0 < q → 0 < r
    → below t (B * p) s (A * q) ≡ false → below u (C * q) t (B * r) ≡ false → below u (C * p) s (A * r) ≡ false
fractions false false false A B C p q r hp hq hr e f = le-ltb _ _ (chain A B C p q r hq (ltb-false _ _ e) (ltb-false _ _ f))
fractions true t false A B C p q r hp hq hr e f = refl
fractions true true true A B C p q r hp hq hr e f = le-ltb _ _ (chain C B A r q p hq (ltb-false _ _ f) (ltb-false _ _ e))
fractions true false true A B C p q r hp hq hr e f =
    let g = ltb-false 0 (C * q + B * r) f in
    let w = vanish C q p hq (omega arith) in
    le-ltb _ _ (let k : C * p ≤ A * r = omega arith in k)
fractions false true false A B C p q r hp hq hr e f =
    let g = ltb-false 0 (B * p + A * q) e in
    let w = vanish A q r hq (omega arith) in
    le-ltb _ _ (let k : A * r ≤ C * p = omega arith in k)
fractions false false true A B C p q r hp hq hr e f =
    let g = ltb-false 0 (C * q + B * r) f in
    let w = vanish C q p hq (omega arith) in
    let v = vanish B r p hr (omega arith) in
    let d = ltb-false (B * p) (A * q) e in
    let j = vanish A q r hq (omega arith) in
    le-ltb _ _ (let k : C * p + A * r ≤ 0 = omega arith in k)
fractions false true true A B C p q r hp hq hr e f =
    let g = ltb-false 0 (B * p + A * q) e in
    let w = vanish A q r hq (omega arith) in
    let v = vanish B p r hp (omega arith) in
    let d = ltb-false (B * r) (C * q) f in
    let j = vanish C q p hq (omega arith) in
    le-ltb _ _ (let k : C * p + A * r ≤ 0 = omega arith in k)

-- ---- the infinities
three_inf : (s t u : Bool) → (t && not s) ≡ false → (u && not t) ≡ false → (u && not s) ≡ false
three_inf s t false e f = refl
three_inf s true true e f = e
three_inf true false true e f = refl
three_inf false false true e f = f

inf_inf_fin : (s t : Bool) → (t && not s) ≡ false → not t ≡ false → not s ≡ false
inf_inf_fin s true e f = e
inf_inf_fin true false e f = refl
inf_inf_fin false false e f = f

fin_inf_inf : (t u : Bool) → t ≡ false → (u && not t) ≡ false → u ≡ false
fin_inf_inf t false e f = refl
fin_inf_inf true true e f = e
fin_inf_inf false true e f = f

inf_both : (t b : Bool) → t ≡ false → not t ≡ false → b ≡ false
inf_both true b e f = absurd (true≢false e)
inf_both false b e f = absurd (true≢false f)

and-false : (u b : Bool) → b ≡ false → (u && b) ≡ false
and-false true b e = e
and-false false b e = refl

-- y is not below x and z is not below y: z is not below x, where y is a number
pub not_below_trans : (y x z : Float) → is_nan y ≡ false → lt y x ≡ false → lt z y ≡ false → lt z x ≡ false
unfolding lt is_nan
not_below_trans nan x z h e f = absurd (true≢false h)
not_below_trans (inf t) nan nan h e f = refl
not_below_trans (inf t) nan (inf u) h e f = refl
not_below_trans (inf t) nan (fin u k c) h e f = refl
not_below_trans (inf t) (inf s) nan h e f = refl
not_below_trans (inf t) (inf s) (inf u) h e f = three_inf s t u e f
not_below_trans (inf t) (inf s) (fin u k c) h e f = inf_inf_fin s t e f
not_below_trans (inf t) (fin s m a) nan h e f = refl
not_below_trans (inf t) (fin s m a) (inf u) h e f = fin_inf_inf t u e f
not_below_trans (inf t) (fin s m a) (fin u k c) h e f = inf_both t _ e f
not_below_trans (fin t n b) nan nan h e f = refl
not_below_trans (fin t n b) nan (inf u) h e f = refl
not_below_trans (fin t n b) nan (fin u k c) h e f = refl
not_below_trans (fin t n b) (inf s) nan h e f = refl
not_below_trans (fin t n b) (inf s) (inf u) h e f = and-false u (not s) e
not_below_trans (fin t n b) (inf s) (fin u k c) h e f = e
not_below_trans (fin t n b) (fin s m a) nan h e f = refl
not_below_trans (fin t n b) (fin s m a) (inf u) h e f = f
not_below_trans (fin t n b) (fin s m a) (fin u k c) h e f =
    fractions s t u (m * up a) (n * up b) (k * up c) (down a) (down b) (down c) (down_pos a) (down_pos b) (down_pos c) e f

-- ---- of two numbers the one is at most the other exactly where the other is not below it
upward : (a b : ℕ) → (ltb a b || (eqb a b && true)) ≡ not (ltb b a)
upward a b = go (ltb a b) refl
  where
    go : (t : Bool) → ltb a b ≡ t → (t || (eqb a b && true)) ≡ not (ltb b a)
    go true e = let l = ltb-true a b e in rw (le-ltb b a (let k : a ≤ b = omega arith in k)) refl
    go false e = level_case (ltb b a) refl
      where
        level_case : (u : Bool) → ltb b a ≡ u → (eqb a b && true) ≡ not u
        level_case true f = let l = ltb-true b a f in rw (ne_eqb a b (λ (q : a ≡ b). omega arith)) refl
        level_case false f = let l = ltb-false b a f in let m = ltb-false a b e in rw (eq-eqb a b (let q : a ≡ b = omega arith in q)) refl

crossing : (a b : ℕ) → (eqb a b && eqb a 0) ≡ not (ltb 0 (b + a))
crossing zero zero = refl
crossing zero (suc b) = rw (ne_eqb 0 (suc b) (λ (q : 0 ≡ suc b). omega arith), lt-ltb 0 (suc b + 0) (omega arith)) refl
crossing (suc a) b = rw (ne_eqb (suc a) 0 (λ (q : suc a ≡ 0). omega arith), lt-ltb 0 (b + suc a) (omega arith)) (and-false (eqb (suc a) b) false refl)

downward : (a b : ℕ) → (ltb 0 (a + b) || (eqb a b && eqb a 0)) ≡ true
downward zero zero = refl
downward zero (suc b) = rw (lt-ltb 0 (0 + suc b) (omega arith)) refl
downward (suc a) b = rw (lt-ltb 0 (suc a + b) (omega arith)) refl

swapped : (a b : ℕ) → eqb a b ≡ eqb b a
swapped a b = go (eqb a b) refl
  where
    go : (t : Bool) → eqb a b ≡ t → t ≡ eqb b a
    go true e = sym (eq-eqb b a (sym (eqb-true a b e)))
    go false e = sym (ne_eqb b a (λ (q : b ≡ a). true≢false (sym (eq-eqb a b (sym q)) ∙ e)))

fin_fin : (s t : Bool) (a b : ℕ) → (below s a t b || level s a t b) ≡ not (below t b s a)
fin_fin false false a b = upward a b
fin_fin false true a b = crossing a b
fin_fin true false a b = downward a b
fin_fin true true a b = rw (swapped a b) (upward b a)

inf_inf : (s t : Bool) → ((s && not t) || beq s t) ≡ not (t && not s)
inf_inf true true = refl
inf_inf true false = refl
inf_inf false true = refl
inf_inf false false = refl

inf_fin : (s : Bool) → (s || false) ≡ not (not s)
inf_fin true = refl
inf_fin false = refl

or-false : (s : Bool) → (s || false) ≡ s
or-false true = refl
or-false false = refl

pub le_not_lt : (x y : Float) → is_nan x ≡ false → is_nan y ≡ false → le x y ≡ not (lt y x)
unfolding le lt eq is_nan
le_not_lt nan y h k = absurd (true≢false h)
le_not_lt (inf s) nan h k = absurd (true≢false k)
le_not_lt (inf s) (inf t) h k = inf_inf s t
le_not_lt (inf s) (fin t n d) h k = inf_fin s
le_not_lt (fin s m e) nan h k = absurd (true≢false k)
le_not_lt (fin s m e) (inf t) h k = or-false (not t)
le_not_lt (fin s m e) (fin t n d) h k = fin_fin s t (m * up e * down d) (n * up d * down e)

-- ---- irreflexive, and not both ways
same_sign : (s : Bool) (a : ℕ) → below s a s a ≡ false
same_sign false a = le-ltb a a (let k : a ≤ a = omega arith in k)
same_sign true a = le-ltb a a (let k : a ≤ a = omega arith in k)

not_self : (s : Bool) → (s && not s) ≡ false
not_self true = refl
not_self false = refl

pub irreflexive : (x : Float) → lt x x ≡ false
unfolding lt
irreflexive nan = refl
irreflexive (inf s) = not_self s
irreflexive (fin s m e) = same_sign s (m * up e * down e)

nan_above : (y : Float) → lt nan y ≡ false
unfolding lt
nan_above y = refl

nan_below : (x : Float) → lt x nan ≡ false
unfolding lt
nan_below nan = refl
nan_below (inf s) = refl
nan_below (fin s m e) = refl

pub below_number : (x y : Float) → lt x y ≡ true → (is_nan x ≡ false) × (is_nan y ≡ false)
unfolding is_nan
below_number nan y h = absurd (false≢true (sym (nan_above y) ∙ h))
below_number (inf s) nan h = absurd (false≢true (sym (nan_below (inf s)) ∙ h))
below_number (inf s) (inf t) h = (refl, refl)
below_number (inf s) (fin t n d) h = (refl, refl)
below_number (fin s m e) nan h = absurd (false≢true (sym (nan_below (fin s m e)) ∙ h))
below_number (fin s m e) (inf t) h = (refl, refl)
below_number (fin s m e) (fin t n d) h = (refl, refl)

not-true : (b : Bool) → not b ≡ true → b ≡ false
not-true true h = absurd (false≢true h)
not-true false h = refl

le_of_lt : (x y : Float) → lt x y ≡ true → le x y ≡ true
unfolding le
le_of_lt x y h = rw h

pub asymmetric : (x y : Float) → lt x y ≡ true → lt y x ≡ false
asymmetric x y h =
    let k = below_number x y h in
    not-true _ (sym (le_not_lt x y k.0 k.1) ∙ le_of_lt x y h)

-- x below y and z not below y: x is below z, where z is a number
pub below_more : (x y z : Float) → is_nan z ≡ false → lt x y ≡ true → lt z y ≡ false → lt x z ≡ true
below_more x y z h e f = go (lt x z) refl
  where
    go : (b : Bool) → lt x z ≡ b → lt x z ≡ true
    go true q = q
    go false q = absurd (true≢false (sym e ∙ not_below_trans z y x h f q))

-- ---- total and transitive
pub le_total : (x y : Float) → is_nan x ≡ false → is_nan y ≡ false → (le x y ≡ true) ⊎ (le y x ≡ true)
le_total x y h k = go (lt y x) refl
  where
    go : (b : Bool) → lt y x ≡ b → (le x y ≡ true) ⊎ (le y x ≡ true)
    go true e = inr (le_not_lt y x k h ∙ ap not (asymmetric y x e))
    go false e = inl (le_not_lt x y h k ∙ ap not e)

pub le_trans_number : (x y z : Float) → is_nan x ≡ false → is_nan y ≡ false → is_nan z ≡ false → le x y ≡ true → le y z ≡ true → le x z ≡ true
le_trans_number x y z hx hy hz p q =
    le_not_lt x z hx hz
    ∙ ap not (not_below_trans y x z hy (not-true _ (sym (le_not_lt x y hx hy) ∙ p)) (not-true _ (sym (le_not_lt y z hy hz) ∙ q)))
