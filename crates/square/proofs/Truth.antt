-- Truth values. Assumes nothing.
use mathlib.Core.Path.{◌≡◌, refl, sym, ◌∙◌}
use mathlib.Core.Bool.{Bool, true, false, true≢false, not, ◌&&◌}
use mathlib.Core.Logic.{◌⊎◌, inl, inr}

pub dec : (b : Bool) → (b ≡ true) ⊎ (b ≡ false)
dec true = inl refl
dec false = inr refl

pub not_both : {X : Type 0} (b : Bool) → b ≡ true → b ≡ false → X
not_both b p q = absurd (true≢false (sym p ∙ q))

pub not_of_true : {b : Bool} → b ≡ true → not b ≡ false
not_of_true {b} e = rw e

pub not_of_false : {b : Bool} → b ≡ false → not b ≡ true
not_of_false {b} e = rw e

-- two that imply each other
pub same : (a b : Bool) → (a ≡ true → b ≡ true) → (b ≡ true → a ≡ true) → a ≡ b
same true b f g = sym (f refl)
same false true f g = g refl
same false false f g = refl

-- ---- and
pub and_both : {a b : Bool} → a ≡ true → b ≡ true → (a && b) ≡ true
and_both {a} {b} p q = rw (p, q)

pub and_left : (a b : Bool) → (a && b) ≡ true → a ≡ true
and_left true b h = refl
and_left false b h = h

pub and_right : (a b : Bool) → (a && b) ≡ true → b ≡ true
and_right true b h = h
and_right false b h = absurd (true≢false (sym h))

pub and_not_left : (a b : Bool) → a ≡ false → (a && b) ≡ false
and_not_left a b e = rw e

pub and_not_right : (a b : Bool) → b ≡ false → (a && b) ≡ false
and_not_right true b e = e
and_not_right false b e = refl

pub and-true : (b : Bool) → (b && true) ≡ b
and-true true = refl
and-true false = refl
