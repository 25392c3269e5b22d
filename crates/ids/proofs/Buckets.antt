-- The bucket of an id: its size, folded at 0, in the code's steps; and ids of different buckets differ. Assumes nothing.
use mathlib.Core.Path.{◌≡◌, refl, sym, ap}
use mathlib.Core.Bool.{true, false, true≢false}
use Prim.Native.Nat.{suc, ◌<◌}
use native.Mathlib.Omega.{arith}
use borrow.Author.Tests.{le-ltb}
use lib.Dec.{T}
use lib.IntN.{ℤ, pos, negsuc, nat_abs, ◌-ℤ◌}
use lib.Signed.{mag, non_neg}
use mir.Syntax.{w32, w64}
use mir.Val.{SFits, Fits}
use Rattle.counts.specs.Counts.{same_id}
use Rattle.ids.specs.Chains.{bucket_of}
use Rattle.ids.proofs.Lookups.{not_same}

pub natural : (z : ℤ) → non_neg z ≡ true → nat_abs z ≡ mag z
natural (pos n) e = refl
natural (negsuc n) e = absurd (true≢false (sym e))

pub natural_casts : (z : ℤ) → non_neg z ≡ true → SFits w32 z → T (non_neg z) × Fits w64 (nat_abs z)
natural_casts (pos n) e h = (tt, (let l : n < 2147483648 = h.sfits in record { fits = omega arith }))
natural_casts (negsuc n) e h = absurd (true≢false (sym e))

pub folded : (z : ℤ) → non_neg z ≡ false → negsuc 0 -ℤ z ≡ pos (mag z)
folded (pos n) e = absurd (true≢false e)
folded (negsuc n) e = simp (le-ltb (suc n) 1 (omega arith)) (ap pos (omega arith))

pub size_fits : (z : ℤ) → SFits w32 z → SFits w32 (pos (mag z))
size_fits (pos n) h = h
size_fits (negsuc n) h = record { sfits = h.sfits }

pub other_bucket : (a b : ℤ) → (bucket_of a ≡ bucket_of b → ⊥) → same_id a b ≡ false
other_bucket a b h = not_same a b (λ (e : a ≡ b). h (ap bucket_of e)) (same_id a b) refl
