-- Lists of digits: one set, parts of them. Assumes nothing.
use mathlib.Core.Path.{◌≡◌, refl}
use mathlib.Core.Bool.{Bool, true, false, cond, false≢true}
use mathlib.Core.List.{List, [], ◌∷◌}
use Prim.Native.Nat.{ℕ, zero, suc, ◌≤◌, ◌<◌}
use borrow.Author.Tests.{lt-ltb, le-ltb}
use lib.ListN.{take, drop, set}
use Rattle.digits.specs.Digits.{is_digit, all_digits}

pub glyph_digit : (b : ℕ) → 48 ≤ b → b < 58 → is_digit b ≡ true
glyph_digit b h g = rw (le-ltb b 48 h, lt-ltb b 58 g)

both : (t u : Bool) → cond t u false ≡ true → (t ≡ true) × (u ≡ true)
both true u e = (refl, e)
both false u e = absurd (false≢true e)

head_and_rest : (b : ℕ) (bs : List ℕ) → all_digits (b ∷ bs) ≡ true → (is_digit b ≡ true) × (all_digits bs ≡ true)
unfolding all_digits
head_and_rest b bs e = both (is_digit b) (all_digits bs) e

more : (b : ℕ) (bs : List ℕ) → is_digit b ≡ true → all_digits bs ≡ true → all_digits (b ∷ bs) ≡ true
unfolding all_digits
more b bs h e = rw h e

none : all_digits [] ≡ true
unfolding all_digits
none = refl

pub set_digits : (xs : List ℕ) (i b : ℕ) → all_digits xs ≡ true → is_digit b ≡ true → all_digits (set xs i b) ≡ true
set_digits [] i b e h = e
set_digits (x ∷ xs) zero b e h = more b xs h (head_and_rest x xs e).1
set_digits (x ∷ xs) (suc i) b e h = let p = head_and_rest x xs e in more x (set xs i b) p.0 (set_digits xs i b p.1 h)

pub take_digits : (n : ℕ) (xs : List ℕ) → all_digits xs ≡ true → all_digits (take n xs) ≡ true
take_digits zero xs e = none
take_digits (suc n) [] e = e
take_digits (suc n) (x ∷ xs) e = let p = head_and_rest x xs e in more x (take n xs) p.0 (take_digits n xs p.1)

pub drop_digits : (n : ℕ) (xs : List ℕ) → all_digits xs ≡ true → all_digits (drop n xs) ≡ true
drop_digits zero xs e = e
drop_digits (suc n) [] e = e
drop_digits (suc n) (x ∷ xs) e = drop_digits n xs (head_and_rest x xs e).1
