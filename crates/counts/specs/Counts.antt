-- Ids and counters over the integers. A counter is an i32 in the code; here it may pass what an i32 holds, so that
-- refusal 7 can be said of the value that it would have.
use Rattle.std.specs.Prelude.{Bool, false, cond, ℕ, eqb, ℤ, pos, negsuc, ◌+ℤ◌}
use Rattle.std.specs.Int.Signed.{le_z}

abbrev pub same_id : ℤ → ℤ → Bool
same_id (pos a) (pos b) = eqb a b
same_id (pos a) (negsuc b) = false
same_id (negsuc a) (pos b) = false
same_id (negsuc a) (negsuc b) = eqb a b

-- refusal 7 is for a counter that would pass 2,147,483,647: this one doesn't
unfoldable pub fits : ℤ → Bool
fits n = le_z n (pos 2147483647)

-- raised by more it still fits
abbrev pub room_for : ℤ → ℕ → Bool
room_for n more = fits (n +ℤ pos more)

abbrev pub one_if : Bool → ℕ
one_if happened = cond happened 1 0
