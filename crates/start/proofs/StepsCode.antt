-- What one turn of the loops of steps A to C does. Assumes nothing.
use Prim.Native.Nat.{ℕ, ◌+◌, ◌-◌, ◌*◌, ◌<◌, ◌≤◌}
use mathlib.Core.Path.{◌≡◌, refl, sym, ap, ◌∙◌, subst}
use mathlib.Core.Bool.{Bool, true, false, not, ◌&&◌}
use mathlib.Core.List.{List}
use native.Mathlib.Omega.{arith}
use native.Mathlib.Nat.{suc-mul, mul-le-mul_right}
use lib.ListN.{length, get_or, set, take, drop, length-take, length-drop}
use lib.Seq.{get_or-take, get_or-drop}
use lib.Ieee.{Float, nan, inf}
use borrow.Author.Tests.{le-ltb, lt-ltb}
use Rattle.floats.specs.Float.{is_finite}
use Rattle.square.specs.Square.{zero_at, in_row, along, least, line, over}
use Rattle.square.proofs.Truth.{and_not_left, and_not_right, not_of_true, not_of_false}
use Rattle.square.proofs.Index.{loop_more}
use Rattle.square.proofs.Square.{line_same, over_more}
use Rattle.paths.specs.State.{paired}
use Rattle.start.specs.Steps.{entry, least_along, less_by, lowered, rows_lowered, cols_lowered, Pairs, pairs_of, pair_if, pair_at, pair_row, pair_rows}

-- ---- A: the part of the run that is a row
pub row_part : (row h w : ℕ) → row < h → row * w + w ≤ h * w
row_part row h w l = subst (λ (x : ℕ). x ≤ h * w) (suc-mul row w) (mul-le-mul_right w l)

module _ (m : List Float) (row w : ℕ) (fits : row * w + w ≤ length m) where
  abbrev part : List Float
  part = take ((row * w + w) - row * w) (drop (row * w) m)

  part_length : length part ≡ w
  part_length = omega (arith, length-take ((row * w + w) - row * w) (drop (row * w) m), length-drop (row * w) m)

  part_at : (j : ℕ) → j < w → get_or part j nan ≡ entry m w row j
  part_at j l = get_or-take ((row * w + w) - row * w) (drop (row * w) m) j nan (omega arith) ∙ get_or-drop (row * w) m j nan

  part_line : (c : List Float) → line (in_row row) (length part) (λ j _. get_or part j nan) c ≡ line (in_row row) w (λ j _. entry m w row j) c
  part_line c =
      ap (λ (k : ℕ). line (in_row row) k (λ j _. get_or part j nan) c) part_length
      ∙ line_same (in_row row) (λ j _. get_or part j nan) (λ j _. entry m w row j) w c (λ j l _. part_at j l)

-- the next row's part is copied
pub part_more : (m : List Float) (h w row : ℕ) (c₀ c c' : List Float) → length m ≡ h * w → row < h → c ≡ over row w (λ i j _. entry m w i j) c₀
    → c' ≡ line (in_row row) (length (take ((row * w + w) - row * w) (drop (row * w) m))) (λ j _. get_or (take ((row * w + w) - row * w) (drop (row * w) m)) j nan) c
    → c' ≡ over (row + 1) w (λ i j _. entry m w i j) c₀
part_more m h w row c₀ c c' long l v e =
    over_more w (λ i j _. entry m w i j) row c₀ c c' v (e ∙ part_line m row w (omega (arith, row_part row h w l)) c)

-- ---- B
pub least_none : (p : ℕ → ℕ) (c : List Float) → inf false ≡ least_along p 0 c
unfolding least_along
least_none p c = refl

pub least_more : (p : ℕ → ℕ) (c : List Float) (k : ℕ) (a a' : Float) → a ≡ least_along p k c → a' ≡ least a (get_or c (p k) nan) → a' ≡ least_along p (k + 1) c
unfolding least_along
least_more p c k a a' v e = e ∙ ap (λ (a : Float). least a (get_or c (p k) nan)) v ∙ sym (loop_more k (λ t m. least m (get_or c (p t) nan)) (inf false))

module _ (p : ℕ → ℕ) (n : ℕ) (c : List Float) (m : Float) (b : Bool) (e : m ≡ least_along p n c) (f : b ≡ is_finite m) (c' : List Float) where
  pub lower_yes : b ≡ true → c' ≡ less_by p n m c → c' ≡ lowered p n c
  unfolding lowered
  lower_yes t q = q ∙ ap (λ (x : Float). less_by p n x c) e ∙ sym (rw (ap is_finite (sym e) ∙ sym f ∙ t))

  pub lower_no : b ≡ false → c' ≡ c → c' ≡ lowered p n c
  unfolding lowered
  lower_no t q = q ∙ sym (rw (ap is_finite (sym e) ∙ sym f ∙ t))

module _ (n : ℕ) where
  pub rows_none : (c : List Float) → c ≡ rows_lowered n 0 c
  unfolding rows_lowered
  rows_none c = refl

  pub rows_more : (k : ℕ) (c₀ c c' : List Float) → c ≡ rows_lowered n k c₀ → c' ≡ lowered (along (k * 64) 1) n c → c' ≡ rows_lowered n (k + 1) c₀
  unfolding rows_lowered
  rows_more k c₀ c c' v e = e ∙ ap (lowered (along (k * 64) 1) n) v ∙ sym (loop_more k (λ i. lowered (along (i * 64) 1) n) c₀)

  pub cols_none : (c : List Float) → c ≡ cols_lowered n 0 c
  unfolding cols_lowered
  cols_none c = refl

  pub cols_more : (k : ℕ) (c₀ c c' : List Float) → c ≡ cols_lowered n k c₀ → c' ≡ lowered (along k 64) n c → c' ≡ cols_lowered n (k + 1) c₀
  unfolding cols_lowered
  cols_more k c₀ c c' v e = e ∙ ap (lowered (along k 64) n) v ∙ sym (loop_more k (λ j. lowered (along j 64) n) c₀)

-- ---- C
-- two tables as one value
pub pairs_eq : (rows cols rows' cols' : List ℕ) → rows ≡ rows' → cols ≡ cols' → pairs_of rows cols ≡ pairs_of rows' cols'
pairs_eq rows cols rows' cols' p q = λ i. record { rows = p i; cols = q i }

module _ (c : List Float) (n : ℕ) where
  module _ (i : ℕ) where
    pub row_none : (t : Pairs) → t ≡ pair_row c n i 0 t
    unfolding pair_row
    row_none t = refl

    pub row_more : (k : ℕ) (t₀ t t' : Pairs) → t ≡ pair_row c n i k t₀ → t' ≡ pair_at c n i k t → t' ≡ pair_row c n i (k + 1) t₀
    unfolding pair_row
    row_more k t₀ t t' v e = e ∙ ap (pair_at c n i k) v ∙ sym (loop_more k (pair_at c n i) t₀)

  pub pass_none : (t : Pairs) → t ≡ pair_rows c n 0 t
  unfolding pair_rows
  pass_none t = refl

  pub pass_more : (k : ℕ) (t₀ t t' : Pairs) → t ≡ pair_rows c n k t₀ → t' ≡ pair_row c n k n t → t' ≡ pair_rows c n (k + 1) t₀
  unfolding pair_rows
  pass_more k t₀ t t' v e = e ∙ ap (pair_row c n k n) v ∙ sym (loop_more k (λ i. pair_row c n i n) t₀)

  module _ (i j : ℕ) (t t' : Pairs) where
    keeps : (b : Bool) → b ≡ false → t' ≡ t → t' ≡ pair_if b i j t
    unfolding pair_if
    keeps b e p = rw e p

    abbrev free : Bool
    free = not (paired n t.rows i) && not (paired n t.cols j)

    pub no_zero : zero_at c i j ≡ false → t' ≡ t → t' ≡ pair_at c n i j t
    unfolding pair_at
    no_zero z p = keeps (zero_at c i j && free) (and_not_left (zero_at c i j) free z) p

    pub row_taken : get_or t.rows i 0 < n → t' ≡ t → t' ≡ pair_at c n i j t
    unfolding pair_at
    row_taken l p = keeps (zero_at c i j && free) (and_not_right (zero_at c i j) free (and_not_left _ _ (not_of_true (lt-ltb (get_or t.rows i 0) n l)))) p

    pub col_taken : get_or t.cols j 0 < n → t' ≡ t → t' ≡ pair_at c n i j t
    unfolding pair_at
    col_taken l p = keeps (zero_at c i j && free) (and_not_right (zero_at c i j) free (and_not_right (not (paired n t.rows i)) _ (not_of_true (lt-ltb (get_or t.cols j 0) n l)))) p

    pub pair_made : zero_at c i j ≡ true → n ≤ get_or t.rows i 0 → n ≤ get_or t.cols j 0 → t' ≡ pairs_of (set t.rows i j) (set t.cols j i) → t' ≡ pair_at c n i j t
    unfolding pair_at pair_if
    pair_made z r k p = rw (z, not_of_false (le-ltb (get_or t.rows i 0) n r), not_of_false (le-ltb (get_or t.cols j 0) n k)) p
