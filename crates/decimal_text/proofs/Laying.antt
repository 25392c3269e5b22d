-- Parts laid one behind the other. Assumes nothing.
use mathlib.Core.Path.{◌≡◌, refl, ◌∙◌}
use mathlib.Core.Bool.{Bool, true, false, cond}
use mathlib.Core.List.{List, [], ◌∷◌, ◌++◌, append_assoc, append-nil}
use Prim.Native.Nat.{ℕ, ◌+◌, ◌/◌, ◌%◌, ◌≤◌, ◌<◌}
use native.Mathlib.Numerals.{add-one}
use native.Mathlib.Omega.{arith}
use borrow.Author.Tests.{eq-eqb, ne_eqb}
use lib.Dec.{eqb}
use lib.ListN.{length, take, get_or, set, length-append}
use lib.Seq.{take-suc, take-suc-set, take_all}
use Rattle.decimal_text.specs.Texts.{sign_of, name_of, exponent_of, Laid, Numbered, WrittenAt}
use Rattle.decimal_text.proofs.Decimals.{numeral_length}

pub none_laid : (out : List ℕ) (at : ℕ) → take (at + 0) out ≡ take at out ++ []
none_laid out at =
    let same : at + 0 ≡ at = omega arith in
    rw (same, append-nil)

pub one_laid : (before out part : List ℕ) (at i : ℕ) → at + i < length out → i < length part → take (at + i) out ≡ before ++ take i part → take (at + (i + 1)) (set out (at + i) (get_or part i 0)) ≡ before ++ take (i + 1) part
one_laid before out part at i h g e =
    let next : at + (i + 1) ≡ at + i + 1 = omega arith in
    rw (next, add-one (at + i), take-suc-set out (at + i) (get_or part i 0) h, e, add-one i, take-suc part i 0 g) (append_assoc before (take i part) _)

pub all_laid : (before out part : List ℕ) (at i : ℕ) → i ≤ length part → length part ≤ i → take (at + i) out ≡ before ++ take i part → take (at + length part) out ≡ before ++ part
all_laid before out part at i h g e =
    let same : length part ≡ i = omega arith in
    rw (same, e, take_all i part g)

pub laid_behind : {at r s : ℕ} {a b before mid after : List ℕ} → Laid at a before mid r → Laid r b mid after s → Laid at (a ++ b) before after s
laid_behind {at} {r} {s} {a} {b} {before} {mid} {after} p q =
    record {
      ends = omega (arith, p.ends, q.ends, length-append a b);
      kept = q.kept ∙ p.kept;
      text = rw (q.text, p.text) (append_assoc (take at before) a b);
    }

flag_short : (t : Bool) → length {A = ℕ} (cond t [] (45 ∷ [])) ≤ 1
flag_short true = omega arith
flag_short false = omega arith

pub sign_short : (bits : ℕ) → length (sign_of bits) ≤ 1
unfolding sign_of
sign_short bits = flag_short (eqb (bits / 0x8000_0000_0000_0000) 0)

pub no_sign : (bits : ℕ) → bits / 0x8000_0000_0000_0000 ≡ 0 → sign_of bits ≡ []
unfolding sign_of
no_sign bits e = rw (eq-eqb _ _ e)

pub a_sign : (bits : ℕ) → (bits / 0x8000_0000_0000_0000 ≡ 0 → ⊥) → sign_of bits ≡ 45 ∷ []
unfolding sign_of
a_sign bits n = rw (ne_eqb _ _ n)

pub infinity_named : (bits : ℕ) → bits % 0x10_0000_0000_0000 ≡ 0 → name_of bits ≡ 105 ∷ 110 ∷ 102 ∷ []
unfolding name_of
infinity_named bits e = rw (eq-eqb _ _ e)

pub nan_named : (bits : ℕ) → (bits % 0x10_0000_0000_0000 ≡ 0 → ⊥) → name_of bits ≡ 110 ∷ 97 ∷ 110 ∷ []
unfolding name_of
nan_named bits n = rw (ne_eqb _ _ n)

flag_name_short : (t : Bool) → length {A = ℕ} (cond t (105 ∷ 110 ∷ 102 ∷ []) (110 ∷ 97 ∷ 110 ∷ [])) ≤ 3
flag_name_short true = omega arith
flag_name_short false = omega arith

name_short : (bits : ℕ) → length (name_of bits) ≤ 3
unfolding name_of
name_short bits = flag_name_short (eqb (bits % 0x10_0000_0000_0000) 0)

pub nothing_laid : (out : List ℕ) → Laid 0 [] out out 0
nothing_laid out = record { ends = refl; kept = refl; text = refl }

module _ {bits at r : ℕ} {before mid after : List ℕ} (sign : Laid 0 (sign_of bits) before mid at) where
  pub name_written : exponent_of bits ≡ 2047 → Laid at (name_of bits) mid after r → WrittenAt bits before after r
  name_written e p =
      let whole = laid_behind sign p in
      record {
        small = omega (arith, sign.ends, p.ends, sign_short bits, name_short bits);
        kept = whole.kept;
        written = record { named = λ _. whole.text; numbered = λ no. absurd (no e) };
      }

  pub number_written : (exponent_of bits ≡ 2047 → ⊥) → Numbered at mid after r → WrittenAt bits before after r
  number_written other p =
      let whole = laid_behind sign p.laid in
      record {
        small = omega (arith, sign.ends, p.laid.ends, sign_short bits, numeral_length p.numeral);
        kept = whole.kept;
        written = record { named = λ e. absurd (other e); numbered = λ _. record { rest = p.part; reads = whole.text; numeral = p.numeral } };
      }
