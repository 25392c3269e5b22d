-- Lists that are written over from the front. The laws of the numbers are those of `matrix_numbers`, passed on. Assumes nothing.
use mathlib.Core.Path.{◌≡◌, refl, sym, ap, ◌∙◌}
use mathlib.Core.Logic.{inl, inr}
use mathlib.Core.List.{List, [], ◌∷◌, ◌++◌, append_assoc}
use Prim.Native.Nat.{ℕ, zero, suc, ◌+◌, ◌*◌, ◌/◌, ◌≤◌, ◌<◌}
use native.Mathlib.Nat.{eq-or-lt_of_le, le_of_suc-le-suc, not-suc-le-zero, suc-mul, zero-mul, le_trans, le_of_eq, mul-le-mul_right}
use native.Mathlib.Numerals.{add-one}
use native.Mathlib.Omega.{arith}
use lib.ListN.{length, get_or, get_or-append, drop, take, set, length-append, length-drop, take-append-drop}
use borrow.Rule.Slice.PartMut.{mid_of, post_of, put_mid}
use lib.Seq.{get_or_at, get_or-append-add, drop-cons, set_at, take_at, drop_at, drop-drop, drop-append-le}
use lib.Ieee.{Float, nan}
pub use Rattle.matrix_numbers.proofs.Laws.{or_first, or_zero, or-false, cond-zero}
use Rattle.boxes.specs.declared.Box.{Box}
use Rattle.matrix.specs.declared.Measure.{Measure}
use Rattle.matrix.specs.Matrix.{box_at, measured_of, row_of, matrix_of, overwrite, matrix_after}

-- ---- writing over
pub length-overwrite : (ys xs : List Float) → length ys ≤ length xs → length (overwrite ys xs) ≡ length xs
length-overwrite ys xs h = simp (length-append, length-drop) (omega arith)

-- one place more
pub put_next : (p xs : List Float) (j : ℕ) (v : Float) → length p ≡ j → j < length xs → set (overwrite p xs) j v ≡ overwrite (p ++ (v ∷ [])) xs
put_next p xs j v e h = simp (length-append, append_assoc, e, add-one) (rw (drop-cons xs j v h) (set_at p _ _ v j e))

-- one row more
pub row_next : (p q xs : List Float) (at : ℕ) → length p ≡ at → take at (overwrite p xs) ++ overwrite q (drop at (overwrite p xs)) ≡ overwrite (p ++ q) xs
row_next p q xs at e = simp (take_at p, drop_at p, e, length-append, append_assoc, drop-drop)

-- over the first places of a part
pub over_mid : (at k : ℕ) (xs q : List Float) → length q ≤ length (mid_of at k xs) → put_mid at k xs (overwrite q (mid_of at k xs)) ≡ take at xs ++ overwrite q (drop at xs)
over_mid at k xs q h =
    ap (λ (z : List Float). take at xs ++ z)
    (append_assoc q (drop (length q) (mid_of at k xs)) (post_of at k xs)
    ∙ ap (λ (z : List Float). q ++ z) (sym (drop-append-le (length q) (mid_of at k xs) (post_of at k xs) h) ∙ ap (drop (length q)) (take-append-drop k (drop at xs))))

-- ---- rows
pub length_row : (m : Measure) (a : Box) (run : List Float) (n : ℕ) → length (row_of m a run n) ≡ n
unfolding row_of
length_row m a run zero = refl
length_row m a run (suc n) = simp (length-append, length_row m a run n, add-one)

pub length_matrix : (m : Measure) (gt pred : List Float) (n : ℕ) → length (matrix_of m gt pred n) ≡ n * (length pred / 4)
unfolding matrix_of
length_matrix m gt pred zero = sym (zero-mul _)
length_matrix m gt pred (suc n) = simp (length-append, length_matrix m gt pred n, length_row, suc-mul)

pub row_suc : (m : Measure) (a : Box) (run : List Float) (j : ℕ) → row_of m a run (j + 1) ≡ row_of m a run j ++ (measured_of m a (box_at run j) ∷ [])
row_suc m a run j = ap (row_of m a run) (add-one j) ∙ (unfold row_of in refl)

pub matrix_suc : (m : Measure) (gt pred : List Float) (i : ℕ) → matrix_of m gt pred (i + 1) ≡ matrix_of m gt pred i ++ row_of m (box_at gt i) pred (length pred / 4)
matrix_suc m gt pred i = ap (matrix_of m gt pred) (add-one i) ∙ (unfold matrix_of in refl)

pub row_more : (m : Measure) (a : Box) (run xs : List Float) (j : ℕ) → j < length xs
    → set (overwrite (row_of m a run j) xs) j (measured_of m a (box_at run j)) ≡ overwrite (row_of m a run (j + 1)) xs
row_more m a run xs j h = put_next (row_of m a run j) xs j (measured_of m a (box_at run j)) (length_row m a run j) h ∙ ap (λ (z : List Float). overwrite z xs) (sym (row_suc m a run j))

-- a row written over a part of what holds the rows before it
pub matrix_more : (m : Measure) (gt pred xs out last : List Float) (i at k : ℕ) → at ≡ i * (length pred / 4) → out ≡ overwrite (matrix_of m gt pred i) xs
    → length pred / 4 ≤ length (mid_of at k out) → last ≡ overwrite (row_of m (box_at gt i) pred (length pred / 4)) (mid_of at k out)
    → put_mid at k out last ≡ overwrite (matrix_of m gt pred (i + 1)) xs
matrix_more m gt pred xs out last i at k e o h l =
    let row = row_of m (box_at gt i) pred (length pred / 4) in
    ap (put_mid at k out) l
    ∙ over_mid at k out row (rw length_row h)
    ∙ ap (λ (z : List Float). take at z ++ overwrite row (drop at z)) o
    ∙ row_next (matrix_of m gt pred i) row xs at (length_matrix m gt pred i ∙ sym e)
    ∙ ap (λ (z : List Float). overwrite z xs) (sym (matrix_suc m gt pred i))

-- the row i of `rows` ends within what has room for all rows
pub row_room : (i rows cols len : ℕ) → i < rows → rows * cols ≤ len → i * cols + cols ≤ len
row_room i rows cols len h r = le_trans (le_of_eq (sym (suc-mul i cols))) (le_trans (mul-le-mul_right cols h) r)

-- ---- at a refusal
pub kept : (m : Measure) (r : ℕ) (gt pred out : List Float) → (r ≡ 0 → ⊥) → out ≡ matrix_after m r gt pred out
unfolding matrix_after
kept m zero gt pred out h = absurd (h refl)
kept m (suc r) gt pred out h = refl

-- ---- an entry, for callers
pub row_at : (m : Measure) (a : Box) (run : List Float) (n j : ℕ) → j < n → get_or (row_of m a run n) j nan ≡ measured_of m a (box_at run j)
unfolding row_of
row_at m a run zero j h = absurd (not-suc-le-zero h)
row_at m a run (suc n) j h =
    elim (eq-or-lt_of_le (le_of_suc-le-suc h)) [
      | inl e ↦ get_or_at (row_of m a run n) (measured_of m a (box_at run n)) [] nan j (length_row m a run n ∙ sym e) ∙ ap (λ (k : ℕ). measured_of m a (box_at run k)) (sym e)
      | inr l ↦ get_or-append (row_of m a run n) (measured_of m a (box_at run n) ∷ []) nan j (rw length_row l) ∙ row_at m a run n j l
    ]

pub matrix_at : (m : Measure) (gt pred : List Float) (n i j : ℕ) → i < n → j < length pred / 4
    → get_or (matrix_of m gt pred n) (i * (length pred / 4) + j) nan ≡ measured_of m (box_at gt i) (box_at pred j)
unfolding matrix_of
matrix_at m gt pred zero i j h k = absurd (not-suc-le-zero h)
matrix_at m gt pred (suc n) i j h k =
    let p = matrix_of m gt pred n in
    let q = row_of m (box_at gt n) pred (length pred / 4) in
    elim (eq-or-lt_of_le (le_of_suc-le-suc h)) [
      | inl e ↦
          ap (λ (x : ℕ). get_or (p ++ q) (x + j) nan) (ap (λ (x : ℕ). x * (length pred / 4)) e ∙ sym (length_matrix m gt pred n))
          ∙ get_or-append-add p q j nan
          ∙ row_at m (box_at gt n) pred (length pred / 4) j k
          ∙ ap (λ (x : ℕ). measured_of m (box_at gt x) (box_at pred j)) (sym e)
      | inr l ↦
          let f : i * (length pred / 4) + j < n * (length pred / 4) = omega (arith, row_room i n (length pred / 4) _ l le_refl') in
          get_or-append p q nan _ (rw length_matrix f) ∙ matrix_at m gt pred n i j l k
    ]
  where
    le_refl' : n * (length pred / 4) ≤ n * (length pred / 4)
    le_refl' = omega arith
