-- What the sizes and lengths of a frame obey where it is in shape. Assumes nothing.
use mathlib.Core.Path.{◌≡◌, refl, ap}
use mathlib.Core.Bool.{not, ◌||◌}
use Prim.Native.Nat.{ℕ, zero, suc, ◌*◌, ◌/◌, ◌%◌, ◌≤◌}
use native.Mathlib.Nat.{mul-le-mul_left, mul-le-mul_right}
use native.Mathlib.Omega.{arith}
use borrow.Author.Tests.{eqb-true, ltb-false, not-false}
use lib.Dec.{ltb, eqb}
use Rattle.matrix.specs.Matrix.{or_no}
use Rattle.matrix.proofs.Laws.{or_zero, or-false, cond-zero}
use Rattle.shape.specs.Shape.{size_no, fit_no, shape_no}

pub or_next : (a b : ℕ) → a ≡ 0 → or_no a b ≡ b
or_next zero b e = refl
or_next (suc a) b e = ap (λ (x : ℕ). or_no x b) e

-- what the sizes and lengths of a side obey at 0
pub record Side (ids floats : ℕ) : Type 0 where
  pub few : ids ≤ 64
  pub boxes : ids ≡ floats / 4
  pub whole : floats % 4 ≡ 0

side : (ids floats : ℕ) → size_no ids floats ≡ 0 → fit_no ids floats ≡ 0 → Side ids floats
unfolding size_no fit_no
side ids floats a b =
    let p = or-false _ _ (cond-zero (ltb 64 ids || ltb 64 (floats / 4)) 2 0 (λ (e : 2 ≡ 0). omega arith) a).0 in
    let q = or-false _ _ (cond-zero (not (eqb ids (floats / 4)) || not (eqb (floats % 4) 0)) 3 0 (λ (e : 3 ≡ 0). omega arith) b).0 in
    record { few = ltb-false _ _ p.0; boxes = eqb-true _ _ (not-false _ q.0); whole = eqb-true _ _ (not-false _ q.1) }

pub sides : (gi g pi p : ℕ) → shape_no gi g pi p ≡ 0 → Side gi g × Side pi p
unfolding shape_no
sides gi g pi p e =
    let a = or_zero (size_no gi g) _ e in
    let b = or_zero (size_no pi p) _ a.1 in
    let c = or_zero (fit_no gi g) _ b.1 in
    (side gi g a.0 c.0, side pi p b.0 c.1)

-- the matrix of a frame in shape has room
pub room : (h w : ℕ) → h ≤ 64 → w ≤ 64 → h * w ≤ 4096
room h w a b = let x = mul-le-mul_right w a in let y = mul-le-mul_left 64 b in omega arith
