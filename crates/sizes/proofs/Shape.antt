-- What the number 0 says of the lengths of a frame of ids and distances. Assumes nothing.
use mathlib.Core.Path.{◌≡◌, refl}
use mathlib.Core.Bool.{Bool, true, false, cond}
use Prim.Native.Nat.{ℕ, ◌*◌, ◌≤◌}
use native.Mathlib.Omega.{arith}
use borrow.Author.Tests.{ltb-false, eqb-true}
use lib.Dec.{ltb, eqb}
use Rattle.sizes.specs.Sizes.{shape_no}

pub record Shaped (rows columns size : ℕ) : Type 0 where
  pub few_rows : rows ≤ 64
  pub few_columns : columns ≤ 64
  pub whole : size ≡ rows * columns

pub well_shaped : (rows columns size : ℕ) → shape_no rows columns size ≡ 0 → Shaped rows columns size
unfolding shape_no
well_shaped rows columns size e = go (ltb 64 rows) (ltb 64 columns) (eqb size (rows * columns)) refl refl refl e
  where
    go : (a b c : Bool) → ltb 64 rows ≡ a → ltb 64 columns ≡ b → eqb size (rows * columns) ≡ c → ◌≡◌ {A = ℕ} (cond a 2 (cond b 2 (cond c 0 3))) 0 → Shaped rows columns size
    go false false true p q r e = record { few_rows = ltb-false 64 rows p; few_columns = ltb-false 64 columns q; whole = eqb-true size (rows * columns) r }
    go true b c p q r e = absurd (omega arith)
    go false true c p q r e = absurd (omega arith)
    go false false false p q r e = absurd (omega arith)
