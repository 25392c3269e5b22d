-- A bit pattern as text. Assumes nothing.
use Rattle.std.specs.Prelude.{ℕ, List}
use Rattle.io.specs.Digits.{last_digits}

-- the 16 hexadecimal digits of a pattern, in ASCII
unfoldable pub spelled : ℕ → List ℕ
spelled n = last_digits 16 16 n
