-- Bit patterns of NaNs. Assumes nothing.
use mathlib.Core.Path.{◌≡◌, refl, sym, ◌∙◌}
use mathlib.Core.Bool.{true, false, false≢true}
use Prim.Native.Nat.{ℕ, ◌%◌, ◌<◌, ◌≤◌}
use borrow.Author.Tests.{lt-ltb, le-ltb}
use lib.Ieee.{Float, nan, inf, fin, binary64, is_nan, of_bits, to_bits, nan_bits}
use lib.Ieee.Bits.{nan_bits_is, nan_bits_above}

pub only_nan : (x : Float) → is_nan x ≡ true → x ≡ nan
unfolding is_nan
only_nan nan e = refl
only_nan (inf s) e = absurd (false≢true e)
only_nan (fin s m k) e = absurd (false≢true e)

-- the library's constant
pub nan_constant : of_bits binary64 0x7ff8_0000_0000_0000 ≡ nan
unfolding of_bits
nan_constant = refl

pub nan_pattern : (n : ℕ) → 0x7ff0_0000_0000_0000 < n % 0x8000_0000_0000_0000 → of_bits binary64 n ≡ nan
nan_pattern n h = only_nan _ (sym (nan_bits_is binary64 n) ∙ nan_bits_above binary64 n ∙ lt-ltb _ _ h)

pub number_pattern : (n : ℕ) → n % 0x8000_0000_0000_0000 ≤ 0x7ff0_0000_0000_0000 → nan_bits binary64 n ≡ false
number_pattern n h = nan_bits_above binary64 n ∙ le-ltb _ _ h

pub nan_bits_lem : to_bits binary64 nan ≡ 0x7ff8_0000_0000_0000
unfolding to_bits
nan_bits_lem = refl
