-- Document 01, "Refusals": the number of each reason.
use Rattle.std.specs.Prelude.{ℕ, Ok, Err, Result}
use Rattle.refusals.specs.declared.Refusal.{Refusal}
use Rattle.refusals.specs.declared.Refusal.TheVariants.{Unsound, TooMany, Misfit, EmptyBox, FullTable, NoRoom, Overflow}

abbrev pub number_of : Refusal → ℕ
number_of Unsound = 1
number_of TooMany = 2
number_of Misfit = 3
number_of EmptyBox = 4
number_of FullTable = 5
number_of NoRoom = 6
number_of Overflow = 7

-- the number of an outcome: 0 where nothing is refused
abbrev pub outcome_of : {A : Type 0} → Result A Refusal → ℕ
outcome_of (Ok a) = 0
outcome_of (Err r) = number_of r
