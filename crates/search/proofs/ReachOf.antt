-- The sets of step F exist: they are computed by marking what is missing until nothing is. Assumes nothing.
use Prim.Native.Nat.{ℕ, zero, suc, ◌+◌, ◌<◌, ◌≤◌}
use mathlib.Core.Path.{◌≡◌, refl, sym, ◌∙◌, subst}
use mathlib.Core.Bool.{Bool, true, false, true≢false, ◌&&◌, not}
use mathlib.Core.List.{List}
use mathlib.Core.Logic.{⊎_elim}
use native.Mathlib.Omega.{arith}
use native.Mathlib.Nat.{not-suc-le-zero}
use lib.ListN.{length, get_or, set, length-set, replicate, length-replicate}
use borrow.Author.Tests.{ltb-true, lt-ltb, not-true}
use Rattle.square.specs.Index.{any, on}
use Rattle.square.specs.Square.{zero_at}
use Rattle.square.proofs.Index.{First, None, first, any_elim, any_none, off}
use Rattle.square.proofs.Truth.{and_both, and_left, and_right, not_both, not_of_false}
use Rattle.paths.specs.State.{State, paired}
use Rattle.search.specs.Inner.{holes}
use Rattle.search.specs.Steps.{Closed, Reached, Within}
use Rattle.search.proofs.Marks.{holes-set, on-set_cases}

-- no marks
abbrev pub clear : List Bool
clear = replicate 64 false

-- what a test that fails says: if the first holds, the second does not hold, so its opposite does
fails : (a b : Bool) → (a && not b) ≡ false → a ≡ true → b ≡ true
fails true true h e = refl
fails true false h e = absurd (true≢false h)
fails false b h e = absurd (true≢false (sym e))

module _ (n : ℕ) (n64 : n ≤ 64) (s : State) where
  abbrev Free : ℕ → Type 0
  Free i = paired n s.rows i ≡ false

  pub record Part (R C : List Bool) : Type 0 where
    pub len_row : length R ≡ 64
    pub len_col : length C ≡ 64
    pub within : (P Q : ℕ → Bool) → Closed s.square n s.cols P Q → ((i : ℕ) → i < n → Free i → P i ≡ true) → Within R C P Q

  pub mark_row : (R C : List Bool) (i : ℕ) → ((P Q : ℕ → Bool) → Closed s.square n s.cols P Q → ((i : ℕ) → i < n → Free i → P i ≡ true) → Within R C P Q → P i ≡ true)
      → Part R C → Part (set R i true) C
  mark_row R C i h p = record {
    len_row = length-set R i true ∙ p.len_row;
    len_col = p.len_col;
    within = λ P Q k f. let w = p.within P Q k f in
        (λ x o. ⊎_elim (λ (e : x ≡ i). subst (λ (y : ℕ). P y ≡ true) (sym e) (h P Q k f w)) (λ (o' : on R x ≡ true). w.0 x o') (on-set_cases R i x o), w.1);
  }

  pub mark_col : (R C : List Bool) (j : ℕ) → ((P Q : ℕ → Bool) → Closed s.square n s.cols P Q → ((i : ℕ) → i < n → Free i → P i ≡ true) → Within R C P Q → Q j ≡ true)
      → Part R C → Part R (set C j true)
  mark_col R C j h p = record {
    len_row = p.len_row;
    len_col = length-set C j true ∙ p.len_col;
    within = λ P Q k f. let w = p.within P Q k f in
        (w.0, λ x o. ⊎_elim (λ (e : x ≡ j). subst (λ (y : ℕ). Q y ≡ true) (sym e) (h P Q k f w)) (λ (o' : on C x ≡ true). w.1 x o') (on-set_cases C j x o));
  }

  -- what may be missing: a free row, a zero's column, a column's row
  unfoldable pub free_missing : List Bool → ℕ → Bool
  free_missing R i = not (paired n s.rows i) && not (on R i)

  unfoldable pub zero_missing : List Bool → List Bool → ℕ → ℕ → Bool
  zero_missing R C i j = (on R i && zero_at s.square i j) && not (on C j)

  unfoldable pub pair_missing : List Bool → List Bool → ℕ → Bool
  pair_missing R C j = (on C j && paired n s.cols j) && not (on R (get_or s.cols j 0))

  abbrev Sets : Type 0
  Sets = (R : List Bool) × (C : List Bool) × Reached n s R C

  abbrev Smaller : ℕ → Type 0
  Smaller k = (R C : List Bool) → Part R C → holes R + holes C < k → Sets

  pub whole : (R C : List Bool) → Part R C → None n (free_missing R) → ((i : ℕ) → i < n → None n (zero_missing R C i)) → None n (pair_missing R C) → Reached n s R C
  unfolding free_missing zero_missing pair_missing
  whole R C p a b d = record {
    len_row = p.len_row;
    len_col = p.len_col;
    start = λ i l f. fails (not (paired n s.rows i)) (on R i) (a i l) (not_of_false f);
    closed = record {
      row = λ i j hi hj o z. fails (on R i && zero_at s.square i j) (on C j) (b i hi j hj) (and_both o z);
      col = λ j hj o l. fails (on C j && paired n s.cols j) (on R (get_or s.cols j 0)) (d j hj) (and_both o (lt-ltb (get_or s.cols j 0) n l));
    };
    within = p.within;
  }

  -- one mark, or all is there
  turn : (k : ℕ) (R C : List Bool) → Part R C → holes R + holes C ≤ k → Smaller k → Sets
  unfolding free_missing zero_missing pair_missing
  turn k R C p le rec = ⊎_elim
      (λ (w : First n (free_missing R)).
      let i = w.0 in
      let o = not-true (on R i) (and_right (not (paired n s.rows i)) (not (on R i)) w.2) in
      let f = not-true (paired n s.rows i) (and_left (not (paired n s.rows i)) (not (on R i)) w.2) in
      rec (set R i true) C (mark_row R C i (λ P Q c h v. h i w.1 f) p) (omega (arith, holes-set R i (omega (arith, w.1, p.len_row)) o)))
      (λ (a : None n (free_missing R)). ⊎_elim
      (λ (w : First n (λ i. any n (zero_missing R C i))).
      let i = w.0 in
      let v : (j : ℕ) × (j < n) × (zero_missing R C w.0 j ≡ true) = any_elim n (zero_missing R C w.0) w.2 in
      let j = v.0 in
      let e = and_left (on R i && zero_at s.square i j) (not (on C j)) v.2 in
      let o = not-true (on C j) (and_right (on R i && zero_at s.square i j) (not (on C j)) v.2) in
      rec R (set C j true)
      (mark_col R C j (λ P Q c h o. c.row i j w.1 v.1 (o.0 i (and_left (on R i) (zero_at s.square i j) e)) (and_right (on R i) (zero_at s.square i j) e)) p)
      (omega (arith, holes-set C j (omega (arith, v.1, p.len_col)) o)))
      (λ (b : None n (λ i. any n (zero_missing R C i))). ⊎_elim
      (λ (w : First n (pair_missing R C)).
      let j = w.0 in
      let r = get_or s.cols j 0 in
      let e = and_left (on C j && paired n s.cols j) (not (on R r)) w.2 in
      let o = not-true (on R r) (and_right (on C j && paired n s.cols j) (not (on R r)) w.2) in
      let l = ltb-true r n (and_right (on C j) (paired n s.cols j) e) in
      rec (set R r true) C
      (mark_row R C r (λ P Q c h v. c.col j w.1 (v.1 j (and_left (on C j) (paired n s.cols j) e)) l) p)
      (omega (arith, holes-set R r (omega (arith, l, p.len_row)) o)))
      (λ (d : None n (pair_missing R C)). (R, C, whole R C p a (λ i l. any_none n (zero_missing R C i) (b i l)) d))
      (first n (pair_missing R C)))
      (first n (λ i. any n (zero_missing R C i))))
      (first n (free_missing R))

  go : (k : ℕ) (R C : List Bool) → Part R C → holes R + holes C ≤ k → Sets
  go zero R C p le = turn zero R C p le (λ R' C' p' l. absurd (not-suc-le-zero l))
  go (suc k) R C p le = turn (suc k) R C p le (λ R' C' p' l. go k R' C' p' (omega arith))

  pub part_none : Part clear clear
  part_none = record {
    len_row = length-replicate 64 false;
    len_col = length-replicate 64 false;
    within = λ P Q k f. (λ i h. not_both (on clear i) h (off 64 i), λ j h. not_both (on clear j) h (off 64 j));
  }

  pub sets : Sets
  sets = go (holes clear + holes clear) clear clear part_none (omega arith)
