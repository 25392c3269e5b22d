-- A correction keeps what was reached, and reaches one column more: the entry that attains the minimum becomes a zero. Assumes nothing.
use Prim.Native.Nat.{ℕ, zero, suc, ◌*◌, ◌<◌, ◌≤◌}
use mathlib.Core.Path.{◌≡◌, refl, sym, ap, ◌∙◌, subst}
use mathlib.Core.Bool.{Bool, true, false, true≢false, cond, ◌&&◌}
use mathlib.Core.List.{List}
use mathlib.Core.Logic.{◌⊎◌, inl, inr, ⊎_elim}
use native.Mathlib.Omega.{arith}
use lib.ListN.{length}
use lib.Ieee.{Float, inf, binary64, sub}
use Rattle.floats.specs.Float.{is_finite, is_zero}
use Rattle.floats.proofs.Zero.{sub_self_is_zero}
use Rattle.square.specs.Index.{count, loop, on}
use Rattle.square.specs.Square.{at, zero_at}
use Rattle.square.proofs.Count.{count_strict}
use Rattle.square.proofs.Square.{least_cases, over-at}
use Rattle.square.proofs.Truth.{and_both, and_left, and_right}
use Rattle.paths.specs.State.{State, paired}
use Rattle.search.specs.Steps.{Closed, Reached, Within, correction, least_over, least_row, least_rows, least_step, shift_of, shifted_of, useful_of}

pub useful_finite : (m : Float) → useful_of m ≡ true → is_finite m ≡ true
unfolding useful_of
useful_finite m h = and_left (is_finite m) _ h

-- the minimum is the start, or an entry
abbrev InRow : List Float → List Bool → ℕ → ℕ → Float → Type 0
InRow c C i k v = (j : ℕ) × (j < k) × (on C j ≡ false) × (v ≡ at c i j)

row_step : (c : List Float) (C : List Bool) (i j : ℕ) (m : Float) (b : Bool) → on C j ≡ b → (least_step c C i j m ≡ m) ⊎ ((on C j ≡ false) × (least_step c C i j m ≡ at c i j))
unfolding least_step
row_step c C i j m true e = inl (rw e)
row_step c C i j m false e = ⊎_elim (λ h. inl (rw e h)) (λ h. inr (e, rw e h)) (least_cases m (at c i j))

in_row : (c : List Float) (C : List Bool) (i k : ℕ) (m : Float) → (least_row c C i k m ≡ m) ⊎ InRow c C i k (least_row c C i k m)
unfolding least_row
in_row c C i zero m = inl refl
in_row c C i (suc k) m = ⊎_elim
    (λ e. ⊎_elim (λ h. inl (e ∙ h)) (λ r. inr (r.0, omega arith, r.2, e ∙ r.3)) (in_row c C i k m))
    (λ r. inr (k, omega arith, r.0, r.1))
    (row_step c C i k (loop k (least_step c C i) m) (on C k) refl)

abbrev InRows : List Float → ℕ → List Bool → List Bool → ℕ → Float → Type 0
InRows c n R C k v = (i : ℕ) × (i < k) × (on R i ≡ true) × InRow c C i n v

rows_step : (c : List Float) (n : ℕ) (R C : List Bool) (i : ℕ) (m : Float) (b : Bool) → on R i ≡ b
    → (cond (on R i) (least_row c C i n m) m ≡ m) ⊎ ((on R i ≡ true) × InRow c C i n (cond (on R i) (least_row c C i n m) m))
rows_step c n R C i m true e = ⊎_elim (λ h. inl (rw e h)) (λ r. inr (e, (r.0, r.1, r.2, rw e r.3))) (in_row c C i n m)
rows_step c n R C i m false e = inl (rw e)

in_rows : (c : List Float) (n : ℕ) (R C : List Bool) (k : ℕ) → (least_rows c n R C k ≡ inf false) ⊎ InRows c n R C k (least_rows c n R C k)
unfolding least_rows
in_rows c n R C zero = inl refl
in_rows c n R C (suc k) = ⊎_elim
    (λ e. ⊎_elim (λ h. inl (e ∙ h)) (λ r. inr (r.0, omega arith, r.2, (r.3.0, r.3.1, r.3.2, e ∙ r.3.3))) (in_rows c n R C k))
    (λ r. inr (k, omega arith, r.0, r.1))
    (rows_step c n R C k (loop k (λ i m. cond (on R i) (least_row c C i n m) m) (inf false)) (on R k) refl)

-- a finite minimum is an entry of R outside C
pub attained : (c : List Float) (n : ℕ) (R C : List Bool) → is_finite (least_over c n R C) ≡ true → InRows c n R C n (least_over c n R C)
unfolding is_finite
attained c n R C h = ⊎_elim (λ e. absurd (true≢false (sym h ∙ ap is_finite e))) (λ r. r) (in_rows c n R C n)

shifted_both : (m x : Float) (a b : Bool) → a ≡ true → b ≡ true → shifted_of a b m x ≡ x
unfolding shifted_of
shifted_both m x a b p q = rw (p, q)

shifted_out : (m x : Float) (a b : Bool) → a ≡ true → b ≡ false → shifted_of a b m x ≡ sub binary64 x m
unfolding shifted_of
shifted_out m x a b p q = rw (p, q)

module _ (n : ℕ) (n64 : n ≤ 64) (c : List Float) (len : length c ≡ n * 64) (rows cols : List ℕ) (R C : List Bool) (m : Float) where
  abbrev old : State
  old = record { square = c; rows = rows; cols = cols }

  abbrev new : State
  new = record { square = shift_of n R C m c; rows = rows; cols = cols }

  -- a correction's cells
  pub cell : (i j : ℕ) → i < n → j < n → at (shift_of n R C m c) i j ≡ shifted_of (on R i) (on C j) m (at c i j)
  cell i j hi hj = over-at n (correction R C m) n64 n c (omega arith) i j hi hj

  zero_kept : (i j : ℕ) → i < n → j < n → on R i ≡ true → on C j ≡ true → zero_at c i j ≡ true → zero_at (shift_of n R C m c) i j ≡ true
  unfolding zero_at
  zero_kept i j hi hj r q z = ap is_zero (cell i j hi hj ∙ shifted_both m (at c i j) (on R i) (on C j) r q) ∙ z

  zero_made : (i j : ℕ) → i < n → j < n → on R i ≡ true → on C j ≡ false → m ≡ at c i j → is_finite m ≡ true → zero_at (shift_of n R C m c) i j ≡ true
  unfolding zero_at
  zero_made i j hi hj r q e f =
      ap is_zero (cell i j hi hj ∙ shifted_out m (at c i j) (on R i) (on C j) r q ∙ ap (λ (x : Float). sub binary64 x m) (sym e)) ∙ sub_self_is_zero m f

  -- whatever closed sets hold the free rows then: what was reached lies in them
  module _ (a : Reached n old R C) (P' Q' : ℕ → Bool) (k : Closed new.square n cols P' Q') (start : (i : ℕ) → i < n → paired n rows i ≡ false → P' i ≡ true) where
    P : ℕ → Bool
    P i = on R i && P' i

    Q : ℕ → Bool
    Q j = on C j && Q' j

    both_closed : Closed c n cols P Q
    unfolding P Q
    both_closed = record {
      row = λ i j hi hj h z.
          let r = and_left (on R i) (P' i) h in
          let q = a.closed.row i j hi hj r z in
          and_both q (k.row i j hi hj (and_right (on R i) (P' i) h) (zero_kept i j hi hj r q z));
      col = λ j hj h l. and_both (a.closed.col j hj (and_left (on C j) (Q' j) h) l) (k.col j hj (and_right (on C j) (Q' j) h) l);
    }

    pub kept : Within R C P' Q'
    unfolding P Q
    kept =
        let w = a.within P Q both_closed (λ i hi f. and_both (a.start i hi f) (start i hi f)) in
        (λ i h. and_right (on R i) (P' i) (w.0 i h), λ j h. and_right (on C j) (Q' j) (w.1 j h))

  pub grows : (R' C' : List Bool) → Reached n old R C → Reached n new R' C' → m ≡ least_over c n R C → is_finite m ≡ true → count n (on C) < count n (on C')
  grows R' C' a b e f =
      let w = attained c n R C (subst (λ (x : Float). is_finite x ≡ true) e f) in
      let i = w.0 in
      let j = w.3.0 in
      let v = kept a (on R') (on C') b.closed b.start in
      count_strict n (on C) (on C') (λ k _ h. v.1 k h) j w.3.1 w.3.2
      (b.closed.row i j w.1 w.3.1 (v.0 i w.2) (zero_made i j w.1 w.3.1 w.2 w.3.2 (e ∙ w.3.3) f))
