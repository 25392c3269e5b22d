-- A path flipped: the tables stay each other's inverse, and one pair more is made. Assumes nothing.
use Prim.Native.Nat.{ℕ, suc, ◌<◌, ◌≤◌}
use mathlib.Core.Path.{◌≡◌, refl, sym, ap, ◌∙◌, subst}
use mathlib.Core.Bool.{true}
use mathlib.Core.List.{List}
use mathlib.Core.Logic.{⊎_elim}
use native.Mathlib.Omega.{arith}
use lib.ListN.{length, get_or, set, length-set}
use lib.Seq.{get_or-set_same, get_or-set_other}
use borrow.Author.Tests.{lt-ltb, le-ltb}
use Rattle.square.specs.Index.{count}
use Rattle.square.proofs.Count.{count_more, count_same}
use Rattle.square.proofs.Index.{eq-or-not}
use Rattle.paths.specs.Inner.{Good}
use Rattle.paths.specs.Path.{Bfs, Flips, last, next}
use Rattle.paths.specs.State.{Tables, paired}

-- a place set to a partner is paired
pub paired_same : (n : ℕ) (t : List ℕ) (i v : ℕ) → i < length t → v < n → paired n (set t i v) i ≡ true
paired_same n t i v l h = lt-ltb (get_or (set t i v) i 0) n (rw (get_or-set_same t i v 0 l) h)

pub paired_other : (n : ℕ) (t : List ℕ) (i v k : ℕ) → (k ≡ i → ⊥) → paired n (set t i v) k ≡ paired n t k
paired_other n t i v k ne = rw (get_or-set_other t i k v 0 ne)

-- two tables that agree but at i, where both have partners
count_set : (n : ℕ) (t : List ℕ) (i v v' : ℕ) → i < length t → v < n → v' < n → count n (paired n (set t i v)) ≡ count n (paired n (set t i v'))
count_set n t i v v' l h h' = count_same n (paired n (set t i v)) (paired n (set t i v')) (λ k _. ⊎_elim
    (λ (e : k ≡ i). subst (λ (x : ℕ). paired n (set t i v) x ≡ paired n (set t i v') x) (sym e) (paired_same n t i v l h ∙ sym (paired_same n t i v' l h')))
    (λ (ne : k ≡ i → ⊥). paired_other n t i v k ne ∙ sym (paired_other n t i v' k ne))
    (eq-or-not k i))

module _ (n : ℕ) (rows₀ cols₀ : List ℕ) (start : ℕ) (b : Bfs) (g : Good n rows₀ cols₀ start b) (T₀ : Tables n rows₀ cols₀) (start_free : n ≤ get_or rows₀ start 0) where
  -- column j waits for a row, the one at place h of the queue: but for it the tables are inverse, and the queue up to h is as it was
  pub record Hang (h j : ℕ) (rows cols : List ℕ) : Type 0 where
    pub len_rows : length rows ≡ 64
    pub len_cols : length cols ≡ 64
    pub j_in : j < n
    pub h_in : h < length b.queue
    pub row_back : (i : ℕ) → i < n → get_or rows i 0 < n → get_or cols (get_or rows i 0) 0 ≡ i
    pub row_not : (i : ℕ) → i < n → get_or rows i 0 ≡ j → ⊥
    pub col_back : (k : ℕ) → k < n → (k ≡ j → ⊥) → get_or cols k 0 < n → get_or rows (get_or cols k 0) 0 ≡ k
    pub as_was : (t : ℕ) → t ≤ h → get_or rows (get_or b.queue t 0) 0 ≡ get_or rows₀ (get_or b.queue t 0) 0
    pub row_count : count n (paired n rows) ≡ count n (paired n rows₀)
    pub col_count : count n (paired n (set cols j 0)) ≡ suc (count n (paired n rows₀))

  pub hang_start : b.hit < n → Hang (get_or b.from b.hit 0) b.hit rows₀ cols₀
  hang_start hl = ⊎_elim (λ (e : b.hit ≡ 64). absurd (omega (arith, T₀.n64))) (λ w. record {
    len_rows = T₀.len_rows;
    len_cols = T₀.len_cols;
    j_in = hl;
    h_in = w.1;
    row_back = T₀.row_back;
    row_not = λ i hi e. omega (arith, w.2, subst (λ (x : ℕ). get_or cols₀ x 0 ≡ i) e (T₀.row_back i hi (omega (arith, e, hl))));
    col_back = λ k hk _ l. T₀.col_back k hk l;
    as_was = λ t _. refl;
    row_count = refl;
    col_count = count_more n (paired n cols₀) (paired n (set cols₀ b.hit 0)) b.hit hl (le-ltb (get_or cols₀ b.hit 0) n w.2)
        (paired_same n cols₀ b.hit 0 (omega (arith, T₀.len_cols, T₀.n64)) (omega arith))
        (λ k _ ne. sym (paired_other n cols₀ b.hit 0 k ne)) ∙ ap suc (sym T₀.same);
  }) g.hit_or

  module _ (h j : ℕ) (rows cols : List ℕ) (a : Hang h j rows cols) where
    abbrev row : ℕ
    row = get_or b.queue h 0

    row_in : row < n
    row_in = g.inside h a.h_in

    row_len : row < length rows
    row_len = omega (arith, row_in, T₀.n64, a.len_rows)

    j_len : j < length cols
    j_len = omega (arith, a.j_in, T₀.n64, a.len_cols)

    -- what the two stores leave
    r_same : get_or (set rows row j) row 0 ≡ j
    r_same = get_or-set_same rows row j 0 row_len

    r_other : (i : ℕ) → (i ≡ row → ⊥) → get_or (set rows row j) i 0 ≡ get_or rows i 0
    r_other i ne = get_or-set_other rows row i j 0 ne

    c_same : get_or (set cols j row) j 0 ≡ row
    c_same = get_or-set_same cols j row 0 j_len

    c_other : (k : ℕ) → (k ≡ j → ⊥) → get_or (set cols j row) k 0 ≡ get_or cols k 0
    c_other k ne = get_or-set_other cols j k row 0 ne

    -- the rows' side is inverse after the two stores
    row_back' : (i : ℕ) → i < n → get_or (set rows row j) i 0 < n → get_or (set cols j row) (get_or (set rows row j) i 0) 0 ≡ i
    row_back' i hi l = ⊎_elim
        (λ (e : i ≡ row). subst (λ (x : ℕ). get_or (set cols j row) (get_or (set rows row j) x 0) 0 ≡ x) (sym e) (rw r_same c_same))
        (λ (ne : i ≡ row → ⊥). rw (r_other i ne) (c_other (get_or rows i 0) (a.row_not i hi) ∙ a.row_back i hi (rw (r_other i ne) at l)))
        (eq-or-not i row)

    pub col_count' : count n (paired n (set cols j row)) ≡ suc (count n (paired n rows₀))
    col_count' = count_set n cols j row 0 j_len row_in (omega (arith, a.j_in)) ∙ a.col_count

    module _ (h_pos : 0 < h) where
      abbrev prev : ℕ
      prev = get_or rows row 0

      pub prev_in : prev < n
      prev_in = rw (a.as_was h (omega arith)) (g.via_in h h_pos a.h_in)

      pub prev_less : get_or b.from prev 0 < h
      prev_less = rw (a.as_was h (omega arith)) (g.via_from h h_pos a.h_in)

      prev-not : prev ≡ j → ⊥
      prev-not e = a.row_not row row_in e

      -- no other row has prev
      prev_one : (i : ℕ) → i < n → get_or rows i 0 ≡ prev → i ≡ row
      prev_one i hi e = sym (a.row_back i hi (rw e prev_in)) ∙ ap (λ (x : ℕ). get_or cols x 0) e ∙ a.row_back row row_in prev_in

      pub hang_next : Hang (get_or b.from prev 0) prev (set rows row j) (set cols j row)
      hang_next = record {
        len_rows = length-set rows row j ∙ a.len_rows;
        len_cols = length-set cols j row ∙ a.len_cols;
        j_in = prev_in;
        h_in = omega (arith, prev_less, a.h_in);
        row_back = row_back';
        row_not = λ i hi e. ⊎_elim
            (λ (p : i ≡ row). prev-not (sym e ∙ subst (λ (x : ℕ). get_or (set rows row j) x 0 ≡ j) (sym p) r_same))
            (λ (ne : i ≡ row → ⊥). ne (prev_one i hi (sym (r_other i ne) ∙ e)))
            (eq-or-not i row);
        col_back = λ k hk ne l. ⊎_elim
            (λ (p : k ≡ j). subst (λ (x : ℕ). get_or (set rows row j) (get_or (set cols j row) x 0) 0 ≡ x) (sym p) (rw c_same r_same))
            (λ (nj : k ≡ j → ⊥).
            let l' : get_or cols k 0 < n = rw (c_other k nj) at l in
            let q = a.col_back k hk nj l' in
            rw (c_other k nj) (r_other (get_or cols k 0) (λ e. ne (sym q ∙ ap (λ (x : ℕ). get_or rows x 0) e)) ∙ q))
            (eq-or-not k j);
        as_was = λ t le. r_other (get_or b.queue t 0) (λ e. absurd (omega (arith, prev_less, g.distinct t h (omega (arith, prev_less, a.h_in)) a.h_in e)))
            ∙ a.as_was t (omega (arith, prev_less));
        row_count = count_same n (paired n (set rows row j)) (paired n rows) (λ i _. ⊎_elim
            (λ (e : i ≡ row). subst (λ (x : ℕ). paired n (set rows row j) x ≡ paired n rows x) (sym e) (paired_same n rows row j row_len a.j_in ∙ sym (lt-ltb prev n prev_in)))
            (λ (ne : i ≡ row → ⊥). paired_other n rows row j i ne)
            (eq-or-not i row)) ∙ a.row_count;
        col_count = count_same n (paired n (set (set cols j row) prev 0)) (paired n (set cols j row)) (λ k _. ⊎_elim
            (λ (e : k ≡ prev). subst (λ (x : ℕ). paired n (set (set cols j row) prev 0) x ≡ paired n (set cols j row) x) (sym e)
            (paired_same n (set cols j row) prev 0 (omega (arith, prev_in, T₀.n64, a.len_cols, length-set cols j row)) (omega (arith, a.j_in))
            ∙ sym (paired_other n cols j row prev prev-not ∙ lt-ltb (get_or cols prev 0) n (rw (a.row_back row row_in prev_in) row_in))))
            (λ (ne : k ≡ prev → ⊥). paired_other n (set cols j row) prev 0 k ne)
            (eq-or-not k prev)) ∙ col_count';
      }

    module _ (h_zero : h ≡ 0) where
      start_row : n ≤ get_or rows row 0
      start_row = rw (a.as_was h (omega arith)) (subst (λ (x : ℕ). n ≤ get_or rows₀ (get_or b.queue x 0) 0) (sym h_zero) (rw g.first start_free))

      pub tables_end : Tables n (set rows row j) (set cols j row)
      tables_end = record {
        n64 = T₀.n64;
        len_rows = length-set rows row j ∙ a.len_rows;
        len_cols = length-set cols j row ∙ a.len_cols;
        row_back = row_back';
        col_back = λ k hk l. ⊎_elim
            (λ (p : k ≡ j). subst (λ (x : ℕ). get_or (set rows row j) (get_or (set cols j row) x 0) 0 ≡ x) (sym p) (rw c_same r_same))
            (λ (nj : k ≡ j → ⊥).
            let l' : get_or cols k 0 < n = rw (c_other k nj) at l in
            let q = a.col_back k hk nj l' in
            rw (c_other k nj) (r_other (get_or cols k 0) (λ e. absurd (omega (arith, start_row, hk, sym q ∙ ap (λ (x : ℕ). get_or rows x 0) e))) ∙ q))
            (eq-or-not k j);
        same = one_more ∙ sym col_count';
      }
        where
          one_more : count n (paired n (set rows row j)) ≡ suc (count n (paired n rows₀))
          one_more = count_more n (paired n rows) (paired n (set rows row j)) row row_in (le-ltb (get_or rows row 0) n start_row) (paired_same n rows row j row_len a.j_in)
              (λ k _ ne. sym (paired_other n rows row j k ne)) ∙ ap suc a.row_count

  pub flip_ok : {h j : ℕ} {rows cols R C : List ℕ} → Flips b.from b.queue h j rows cols R C → Hang h j rows cols
      → Tables n R C × (count n (paired n R) ≡ suc (count n (paired n rows₀)))
  flip_ok (last {j} {rows} {cols}) a = let t = tables_end 0 j rows cols a refl in (t, t.same ∙ col_count' 0 j rows cols a)
  flip_ok (next {h} {j} {rows} {cols} p f) a = flip_ok f (hang_next h j rows cols a p)

  -- an array that holds the queue in its first places serves as well
  pub flips_as : (arr : List ℕ) → ((t : ℕ) → t < length b.queue → get_or arr t 0 ≡ get_or b.queue t 0)
      → {h j : ℕ} {rows cols R C : List ℕ} → Flips b.from arr h j rows cols R C → Hang h j rows cols → Flips b.from b.queue h j rows cols R C
  flips_as arr e (last {j} {rows} {cols}) a =
      subst (λ (r : ℕ). Flips b.from b.queue 0 j rows cols (set rows r j) (set cols j r)) (sym (e 0 a.h_in)) last
  flips_as arr e (next {h} {j} {rows} {cols} {R} {C} p f) a =
      let r = get_or b.queue h 0 in
      let e' : get_or arr h 0 ≡ get_or b.queue h 0 = e h a.h_in in
      next p (subst (λ (r : ℕ). Flips b.from b.queue (get_or b.from (get_or rows r 0) 0) (get_or rows r 0) (set rows r j) (set cols j r) R C) e'
      (flips_as arr e f (subst (λ (r : ℕ). Hang (get_or b.from (get_or rows r 0) 0) (get_or rows r 0) (set rows r j) (set cols j r)) (sym e') (hang_next h j rows cols a p))))

-- one flip only
pub flips_one : {from queue : List ℕ} {h j : ℕ} {rows cols R C R' C' : List ℕ} → Flips from queue h j rows cols R C → Flips from queue h j rows cols R' C' → (R ≡ R') × (C ≡ C')
flips_one last last = (refl, refl)
flips_one last (next p f) = absurd (omega arith)
flips_one (next p f) last = absurd (omega arith)
flips_one (next p f) (next p' f') = flips_one f f'
