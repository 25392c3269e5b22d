-- The lengths of a lent state, and a run that is written whole. Assumes nothing.
use mathlib.Core.Path.{◌≡◌, refl, sym, ap, ◌∙◌}
use mathlib.Core.Bool.{Bool, true, false, cond, ◌&&◌, true≢false}
use mathlib.Core.List.{List, ◌++◌, append-nil}
use Prim.Native.Nat.{ℕ, ◌+◌, ◌≤◌}
use native.Mathlib.Omega.{arith}
use borrow.Author.Tests.{eqb-true}
use lib.Dec.{eqb}
use lib.ListN.{length, drop_of_length-le}
use lib.Seq.{sets, sets-eq}
use Rattle.sizes.specs.Sizes.{Long, log_and_table, lengths_no}

-- ---- the lengths
three_true : (a b c : Bool) → (a && (b && c)) ≡ true → (a ≡ true) × (b ≡ true) × (c ≡ true)
three_true true true c e = (refl, refl, e)
three_true true false c e = absurd (true≢false (sym e))
three_true false b c e = absurd (true≢false (sym e))

pub long : (numbers distances table : ℕ) → log_and_table numbers distances table ≡ true → Long numbers distances table
unfolding log_and_table
long numbers distances table e =
    let h = three_true (eqb numbers 4096) (eqb distances 1024) (eqb table 768) e in
    record { four_columns = eqb-true numbers 4096 h.0; one_column = eqb-true distances 1024 h.1; three_columns = eqb-true table 768 h.2 }

two_or_three : (b : Bool) → eqb (cond b 2 3) 0 ≡ false
two_or_three true = refl
two_or_three false = refl

pub refuses : (shape : ℕ) → eqb (lengths_no shape) 0 ≡ false
unfolding lengths_no
refuses shape = two_or_three (eqb shape 2)

-- ---- a list written whole, place by place
pub whole_written : {A : Type 0} (l vs : List A) → length l ≡ length vs → sets l 0 vs ≡ vs
whole_written l vs e =
    sets-eq vs l 0 (omega arith)
    ∙ (ap (λ (r : List _). vs ++ r) (drop_of_length-le l (let h : length l ≤ 0 + length vs = omega arith in h)) ∙ append-nil vs)
