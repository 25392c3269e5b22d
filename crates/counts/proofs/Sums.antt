-- A counter raised by n, n being a number that an i32 holds: whether it fits, and what a raise keeps. Assumes nothing.
use mathlib.Core.Path.{◌≡◌, refl, sym}
use mathlib.Core.Bool.{Bool, true, false, cond, true≢false}
use Prim.Native.Nat.{ℕ, zero, suc, ◌<◌, ◌≤◌, ◌+◌, ◌-◌}
use native.Mathlib.Omega.{arith}
use borrow.Author.Tests.{le-leb, lt-leb, leb-true, leb-false, le-ltb}
use lib.Dec.{leb, ltb}
use lib.IntN.{ℤ, pos, negsuc, ◌+ℤ◌, ◌-ℤ◌}
use lib.Signed.{mag, le_z, non_neg}
use mir.Syntax.{w32}
use mir.Val.{SFits, to_z}
use mir.Facts.{to_z_pos}
use Rattle.counts.specs.Counts.{fits, room_for}

pub small : (n : ℕ) → n ≤ 2147483647 → to_z w32 n ≡ pos n
small n h = to_z_pos w32 (let g : n < 2147483648 = omega arith in g)

-- the largest number less n
pub top_less : (n : ℕ) → n ≤ 2147483647 → pos 2147483647 -ℤ pos n ≡ pos (2147483647 - n)
top_less zero h = refl
top_less (suc n) h = simp (le-ltb 2147483647 (suc n) h)

pub top_fits : (n : ℕ) → SFits w32 (pos (2147483647 - n))
top_fits n = record { sfits = (let k : 2147483647 - n < 2147483648 = omega arith in k) }

shift : (a n : ℕ) → n ≤ 2147483647 → (b : Bool) → leb (a + n) 2147483647 ≡ b → leb a (2147483647 - n) ≡ b
shift a n h true e = let g = leb-true (a + n) 2147483647 e in le-leb _ _ (let k : a ≤ 2147483647 - n = omega arith in k)
shift a n h false e = let g = leb-false (a + n) 2147483647 e in lt-leb _ _ (let k : 2147483647 - n < a = omega arith in k)

-- what a negative number and n more come to
abbrev diff : Bool → ℕ → ℕ → ℤ
diff b n a = cond b (negsuc (suc a - suc n)) (pos (n - suc a))

diff_below : (b : Bool) (n a : ℕ) → n ≤ 2147483647 → le_z (diff b n a) (pos 2147483647) ≡ true
diff_below true n a h = refl
diff_below false n a h = le-leb _ _ (let k : n - suc a ≤ 2147483647 = omega arith in k)

diff_small : (b : Bool) (n a : ℕ) → n ≤ 2147483647 → a < 2147483648 → mag (diff b n a) < 2147483648
diff_small true n a h g = let k : suc a - suc n < 2147483648 = omega arith in k
diff_small false n a h g = let k : n - suc a < 2147483648 = omega arith in k

pub room_is : (m : ℤ) (n : ℕ) → n ≤ 2147483647 → le_z m (pos (2147483647 - n)) ≡ room_for m n
unfolding fits
room_is (pos a) n h = shift a n h (leb (a + n) 2147483647) refl
room_is (negsuc a) n h = sym (diff_below (ltb n (suc a)) n a h)

-- with room, the sum is an i32
pub sum_fits : (m : ℤ) (n : ℕ) → n ≤ 2147483647 → SFits w32 m → room_for m n ≡ true → SFits w32 (m +ℤ pos n)
unfolding fits
sum_fits (pos a) n h f e = let g = leb-true (a + n) 2147483647 e in record { sfits = (let k : a + n < 2147483648 = omega arith in k) }
sum_fits (negsuc a) n h f e = record { sfits = diff_small (ltb n (suc a)) n a h f.sfits }

-- an i32 has not passed
pub fits_i32 : (z : ℤ) → SFits w32 z → fits z ≡ true
unfolding fits
fits_i32 (pos n) h = let g : n < 2147483648 = h.sfits in le-leb _ _ (let k : n ≤ 2147483647 = omega arith in k)
fits_i32 (negsuc n) h = refl

-- a counter that has passed stays past
pub stays_past : (z : ℤ) (n : ℕ) → fits z ≡ false → fits (z +ℤ pos n) ≡ false
unfolding fits
stays_past (pos a) n e = let g = leb-false a 2147483647 e in lt-leb _ _ (let k : 2147483647 < a + n = omega arith in k)
stays_past (negsuc a) n e = absurd (true≢false e)

-- a counter that is not negative stays so
pub stays_above : (z : ℤ) (n : ℕ) → non_neg z ≡ true → non_neg (z +ℤ pos n) ≡ true
stays_above (pos a) n e = refl
stays_above (negsuc a) n e = absurd (true≢false (sym e))
