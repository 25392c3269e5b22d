-- A signed number and its bits: read back it is itself, and two are the same exactly where their bits are. Assumes nothing.
use mathlib.Core.Path.{◌≡◌, refl, sym, ap, ◌∙◌}
use mathlib.Core.Bool.{Bool, true, false, true≢false}
use Prim.Native.Nat.{ℕ, suc, ◌<◌, ◌^◌, ◌-◌, zero-le}
use native.Mathlib.Omega.{arith}
use borrow.Author.Tests.{ne_eqb, eq-eqb, eqb-true, eqb-false, le-leb}
use lib.Dec.{eqb}
use lib.IntN.{ℤ, pos, negsuc}
use lib.Signed.{mag, le_z, non_neg}
use mir.Syntax.{w32}
use mir.Val.{SFits, of_z, to_z, hbits}
use mir.Facts.{to_z-of_z}
use Rattle.counts.specs.Counts.{same_id}

-- a number in the type's range, as the logic gives it for a field
abbrev pub Small : ℤ → Type 0
Small z = mag z < 2 ^ hbits w32

-- a number read back from its bits
pub back : (z : ℤ) → Small z → to_z w32 (of_z w32 z) ≡ z
back z h = to_z-of_z {w = w32} (record { sfits = h })

-- what a callee said of a signed field, which it was handed as bits
pub told {ℓ} : {A : Type ℓ} (f : ℤ → A) (z : ℤ) {r : A} → Small z → r ≡ f (to_z w32 (of_z w32 z)) → r ≡ f z
told f z h e = e ∙ ap f (back z h)

shifted : (m n : ℕ) → m < 2147483648 → n < 2147483648 → (t : Bool) → eqb m n ≡ t → eqb (4294967296 - suc m) (4294967296 - suc n) ≡ t
shifted m n p q true e = eq-eqb _ _ (ap (λ (k : ℕ). 4294967296 - suc k) (eqb-true m n e))
shifted m n p q false e = ne_eqb _ _ (λ (h : 4294967296 - suc m ≡ 4294967296 - suc n). eqb-false m n e (omega arith))

apart : (m n : ℕ) → m < 2147483648 → n < 2147483648 → m ≡ 4294967296 - suc n → ⊥
apart m n p q h = omega arith

pub same_bits : (a b : ℤ) → SFits w32 a → SFits w32 b → eqb (of_z w32 a) (of_z w32 b) ≡ same_id a b
same_bits (pos m) (pos n) p q = refl
same_bits (pos m) (negsuc n) p q = ne_eqb _ _ (apart m n p.sfits q.sfits)
same_bits (negsuc m) (pos n) p q = ne_eqb _ _ (λ (h : 4294967296 - suc m ≡ n). apart n m q.sfits p.sfits (sym h))
same_bits (negsuc m) (negsuc n) p q = shifted m n p.sfits q.sfits (eqb m n) refl

pub above_zero : (z : ℤ) → le_z (pos 0) z ≡ non_neg z
above_zero (pos n) = le-leb 0 n zero-le
above_zero (negsuc n) = refl

-- the test reads as equality
pub same_eq : (a b : ℤ) → same_id a b ≡ true → a ≡ b
same_eq (pos m) (pos n) e = ap pos (eqb-true m n e)
same_eq (pos m) (negsuc n) e = absurd (true≢false (sym e))
same_eq (negsuc m) (pos n) e = absurd (true≢false (sym e))
same_eq (negsuc m) (negsuc n) e = ap negsuc (eqb-true m n e)

pub same_refl : (a : ℤ) → same_id a a ≡ true
same_refl (pos n) = eq-eqb n n refl
same_refl (negsuc n) = eq-eqb n n refl
