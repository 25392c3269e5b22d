-- The text of a finite float is a numeral behind the float's own sign. Assumes nothing.
use mathlib.Core.Path.{◌≡◌, refl, sym, ◌∙◌, ap}
use mathlib.Core.Bool.{Bool, true, false, cond, false≢true}
use mathlib.Core.List.{List, [], ◌∷◌}
use Prim.Native.Nat.{ℕ, zero, suc, ◌+◌, ◌/◌, ◌%◌, ◌≤◌, ◌<◌}
use native.Mathlib.Omega.{arith}
use borrow.Author.Tests.{leb-true, leb-false}
use lib.Dec.{T, eqb, leb}
use lib.IntN.{ℤ}
use lib.Ieee.{Float, Format, nan, inf, fin, binary64, fits, odd, of_fields, of_bits, to_bits, ones, hid, prec, low}
use lib.Ieee.Bits.{of_bits-to_bits}
use Rattle.decimal_text.specs.Texts.{sign_of, exponent_of, Signed, Written}
use Rattle.decimal_text.proofs.Laying.{no_sign, a_sign}

is_fin : Float → Bool
is_fin nan = false
is_fin (inf s) = false
is_fin (fin s m e) = true

-- the sign, and another value for the NaN
sign_or : Bool → Float → Bool
sign_or t nan = t
sign_or t (inf s) = s
sign_or t (fin s m e) = s

pick_not_fin : (s t : Bool) → is_fin (cond t (inf s) nan) ≡ false
unfolding is_fin
pick_not_fin s true = refl
pick_not_fin s false = refl

all_ones : (s : Bool) (t : ℕ) → is_fin (of_fields binary64 s 2047 t) ≡ false
unfolding of_fields
all_ones s t = pick_not_fin s (eqb t 0)

odd_sign : (s : Bool) (d q k l : ℕ) → sign_or s (odd d s q k l) ≡ s
unfolding odd sign_or
odd_sign s d zero k l = refl
odd_sign s d (suc q) k l = refl

pick_sign : (s c t : Bool) (v : Float) → sign_or s v ≡ s → sign_or s (cond c (cond t (inf s) nan) v) ≡ s
unfolding sign_or
pick_sign s true true v h = refl
pick_sign s true false v h = refl
pick_sign s false t v h = h

fields_sign : (f : Format) (s : Bool) (x t : ℕ) → sign_or s (of_fields f s x t) ≡ s
unfolding of_fields
fields_sign f s zero t = odd_sign s (prec f) t 0 (low f)
fields_sign f s (suc x) t = pick_sign s (eqb (suc x) (ones f)) (eqb t 0) (odd (prec f) s (hid f + t) x (low f)) (odd_sign s (prec f) (hid f + t) x (low f))

-- a pattern with an exponent of all ones is no finite float's
not_named : (b : ℕ) → is_fin (of_bits binary64 b) ≡ true → exponent_of b ≡ 2047 → ⊥
unfolding of_bits
not_named b h e =
    let field : b % 0x8000_0000_0000_0000 / 0x10_0000_0000_0000 ≡ 2047 = omega arith in
    false≢true (sym (all_ones (leb 0x8000_0000_0000_0000 b) (b % 0x10_0000_0000_0000)) ∙ sym (ap (λ (x : ℕ). is_fin (of_fields binary64 (leb 0x8000_0000_0000_0000 b) x (b % 0x10_0000_0000_0000))) field) ∙ h)

abbrev pub minus_of : Bool → List ℕ
minus_of s = cond s (45 ∷ []) []

sign_by : (b : ℕ) (t : Bool) → leb 0x8000_0000_0000_0000 b ≡ t → sign_of b ≡ minus_of t
sign_by b true e = let h : 0x8000_0000_0000_0000 ≤ b = leb-true _ _ e in a_sign b (λ z. omega arith)
sign_by b false e = let h : b < 0x8000_0000_0000_0000 = leb-false _ _ e in no_sign b (omega arith)

pattern_sign : (b : ℕ) → sign_or (leb 0x8000_0000_0000_0000 b) (of_bits binary64 b) ≡ leb 0x8000_0000_0000_0000 b
unfolding of_bits
pattern_sign b = fields_sign binary64 (leb 0x8000_0000_0000_0000 b) (b % 0x8000_0000_0000_0000 / 0x10_0000_0000_0000) (b % 0x10_0000_0000_0000)

pub finite_text : {text : List ℕ} (s : Bool) (m : ℕ) (e : ℤ) → T (fits binary64 (fin s m e)) → Written (to_bits binary64 (fin s m e)) text → Signed (minus_of s) text
unfolding is_fin sign_or
finite_text {text} s m e h w =
    let b = to_bits binary64 (fin s m e) in
    let back : of_bits binary64 b ≡ fin s m e = of_bits-to_bits binary64 (fin s m e) h in
    let same : leb 0x8000_0000_0000_0000 b ≡ s = sym (pattern_sign b) ∙ ap (λ (v : Float). sign_or (leb 0x8000_0000_0000_0000 b) v) back in
    rw (sign_by b s same) at (w.numbered (not_named b (ap is_fin back)))
