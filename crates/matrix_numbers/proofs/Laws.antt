-- The test of a run of boxes, numbers in a row, and what a 0 says. Assumes nothing.
use mathlib.Core.Path.{◌≡◌, refl}
use mathlib.Core.Logic.{inl, inr}
use mathlib.Core.Bool.{Bool, true, false, cond, ◌||◌, true≢false}
use lib.Dec.{ltb}
use borrow.Author.Tests.{ltb-false}
use mathlib.Core.List.{List}
use Prim.Native.Nat.{ℕ, zero, suc, ◌*◌, ◌/◌, ◌≤◌, ◌<◌}
use native.Mathlib.Nat.{eq-or-lt_of_le, le_of_suc-le-suc, not-suc-le-zero}
use native.Mathlib.Omega.{arith}
use lib.ListN.{length}
use lib.Ieee.{Float}
use Rattle.iou.specs.Boxes.{bad_box}
use Rattle.matrix_numbers.specs.Numbers.{box_at, any_bad, or_no, shape_no, room_no, any_read_bad, distance_matrix_no, iou_matrix_no}

-- ---- a bad box among the first n
or-true : (x : Bool) → (x || true) ≡ true
or-true true = refl
or-true false = refl

pub any_true : (run : List Float) (i n : ℕ) → i < n → bad_box (box_at run i) ≡ true → any_bad run n ≡ true
unfolding any_bad
any_true run i zero h b = absurd (not-suc-le-zero h)
any_true run i (suc n) h b = elim (eq-or-lt_of_le (le_of_suc-le-suc h)) [ inl e ↦ rw (← e, b) (or-true (any_bad run i)) | inr l ↦ rw (any_true run i n l b) ]

-- ---- the numbers
pub or_first : (a b : ℕ) → (a ≡ 0 → ⊥) → a ≡ or_no a b
or_first zero b h = absurd (h refl)
or_first (suc a) b h = refl

pub or_zero : (a b : ℕ) → or_no a b ≡ 0 → (a ≡ 0) × (b ≡ 0)
or_zero zero b h = (refl, h)
or_zero (suc a) b h = absurd (zero_ne a h)
  where
    zero_ne : (a : ℕ) → suc a ≡ 0 → ⊥
    zero_ne a h = omega arith

-- a choice that ends in 0 took the second way, if the first is not 0
pub cond-zero : (t : Bool) (a b : ℕ) → (a ≡ 0 → ⊥) → cond t a b ≡ 0 → (t ≡ false) × (b ≡ 0)
cond-zero true a b n h = absurd (n h)
cond-zero false a b n h = (refl, h)

pub or-false : (a b : Bool) → (a || b) ≡ false → (a ≡ false) × (b ≡ false)
or-false true b h = absurd (true≢false h)
or-false false b h = (refl, h)

pub shape_small : (g p : ℕ) → shape_no g p ≡ 0 → (g / 4 ≤ 64) × (p / 4 ≤ 64)
unfolding shape_no
shape_small g p h =
    let k = or-false _ _ (cond-zero (ltb 64 (g / 4) || ltb 64 (p / 4)) 2 _ (λ (e : 2 ≡ 0). omega arith) h).0 in
    (ltb-false _ _ k.0, ltb-false _ _ k.1)

pub room_enough : (rows cols places : ℕ) → room_no rows cols places ≡ 0 → rows * cols ≤ places
unfolding room_no
room_enough rows cols places h = ltb-false _ _ (cond-zero (ltb places (rows * cols)) 6 _ (λ (e : 6 ≡ 0). omega arith) h).0

-- room for all, and no more than 64 a side
abbrev pub Ready : List Float → List Float → ℕ → Type 0
Ready gt pred places = (length gt / 4 * (length pred / 4) ≤ places) × ((length gt / 4 ≤ 64) × (length pred / 4 ≤ 64))

pub iou_matrix_ready : (gt pred : List Float) (places : ℕ) → iou_matrix_no gt pred places ≡ 0 → Ready gt pred places
unfolding iou_matrix_no
iou_matrix_ready gt pred places h = let k = or_zero _ _ h in (room_enough _ _ _ k.1, shape_small _ _ k.0)

pub distance_matrix_ready : (gt pred : List Float) (places : ℕ) → distance_matrix_no gt pred places ≡ 0 → Ready gt pred places
unfolding distance_matrix_no
distance_matrix_ready gt pred places h =
    let k = or_zero _ _ h in
    (room_enough _ _ _ (cond-zero (any_read_bad gt pred) 4 _ (λ (e : 4 ≡ 0). omega arith) k.1).1, shape_small _ _ k.0)
