-- The test that a count is 0, on its bits. Assumes nothing.
use mathlib.Core.Path.{◌≡◌, sym, ◌∙◌}
use mathlib.Core.Bool.{true, false}
use borrow.Author.Tests.{eq-eqb, ne_eqb}
use lib.Dec.{lit<}
use lib.IntN.{ℤ, pos}
use mir.Syntax.{w32}
use mir.Val.{SFits, of_z}
use Rattle.counts.specs.Counts.{same_id}
use Rattle.counts.proofs.Ids.{same_bits}

none : SFits w32 (pos 0)
none = record { sfits = lit< tt }

pub zero_yes : (z : ℤ) → SFits w32 z → of_z w32 z ≡ 0 → same_id z (pos 0) ≡ true
zero_yes z h e = sym (same_bits z (pos 0) h none) ∙ eq-eqb _ _ e

pub zero_no : (z : ℤ) → SFits w32 z → (of_z w32 z ≡ 0 → ⊥) → same_id z (pos 0) ≡ false
zero_no z h e = sym (same_bits z (pos 0) h none) ∙ ne_eqb _ _ e
