-- With rows and columns present, the pairs and the unmatched lists together name each row once and each column once, and each list rises. Assumes nothing.
use Prim.Native.Nat.{ℕ, zero, suc, ◌+◌, ◌<◌, ◌≤◌}
use mathlib.Core.Logic.{⊎_elim}
use mathlib.Core.Path.{◌≡◌, refl, sym, ap, ◌∙◌, subst}
use mathlib.Core.Bool.{Bool, true, false, not, ◌&&◌}
use mathlib.Core.List.{List, ◌++◌, map}
use native.Mathlib.Omega.{arith}
use lib.ListN.{length, get_or, take}
use lib.Dec.{eqb}
use lib.Ieee.{Float}
use borrow.Author.Tests.{eqb-true, eq-eqb, ne_eqb, not-false}
use Rattle.square.specs.Index.{count, any, gather, Rising, Once}
use Rattle.square.proofs.Truth.{dec, and_both, and_left, and_right, and_not_right, not_of_true}
use Rattle.square.proofs.Count.{count-zero, count_none, count_more, count_same, count_yes, count_no, count-not}
use Rattle.square.proofs.Index.{any-zero, any_intro, any_elim}
use Rattle.square.proofs.Gather.{gather-map, take-filled, those, rising, once}
use Rattle.optimize.specs.declared.Assignment.{Assignment}
use Rattle.optimize.specs.declared.AssignmentResult.{AssignmentResult}
use Rattle.optimize.specs.Answer.{Answered, empty_of, refused, no_rows, no_columns, found, Solved, keeps, taken, pair_of, no_pair, result_of}
use Rattle.optimize.proofs.Number.{fits}
use Rattle.optimize.proofs.Listing.{real}
use Rattle.hungarian.proofs.Solve.{solved_ok}

-- ---- the lists of a result
abbrev pub pair_rows : AssignmentResult → List ℕ
pair_rows r = map (λ (a : Assignment). a.row_idx) (take r.num_assignments r.assignments)

abbrev pub pair_cols : AssignmentResult → List ℕ
pair_cols r = map (λ (a : Assignment). a.col_idx) (take r.num_assignments r.assignments)

abbrev pub left_rows : AssignmentResult → List ℕ
left_rows r = take r.num_unmatched_rows r.unmatched_rows

abbrev pub left_cols : AssignmentResult → List ℕ
left_cols r = take r.num_unmatched_cols r.unmatched_cols

pub record Named (h w : ℕ) (r : AssignmentResult) : Type 0 where
  pub rows : Once h (pair_rows r ++ left_rows r)
  pub cols : Once w (pair_cols r ++ left_cols r)
  pub pairs_rise : Rising (pair_rows r)
  pub rows_rise : Rising (left_rows r)
  pub cols_rise : Rising (left_cols r)
  pub row_count : r.num_assignments + r.num_unmatched_rows ≡ h
  pub col_count : r.num_assignments + r.num_unmatched_cols ≡ w

-- ---- the lists as the definitions have them
module _ (m : List Float) (h w : ℕ) (limit : Float) (rows : List ℕ) (corrections paths : ℕ) where
  abbrev r : AssignmentResult
  r = result_of m h w limit rows corrections paths

  abbrev kept : ℕ → Bool
  kept = keeps m w limit rows

  abbrev free : ℕ → Bool
  free j = not (taken m w limit rows h j)

  pair_rows_lem : pair_rows r ≡ those h kept
  unfolding result_of
  pair_rows_lem = ap (map (λ (a : Assignment). a.row_idx)) (take-filled no_pair h kept (pair_of rows)) ∙ gather-map (λ (a : Assignment). a.row_idx) kept (pair_of rows) h

  pair_cols_lem : pair_cols r ≡ gather h kept (λ i. get_or rows i 0)
  unfolding result_of
  pair_cols_lem = ap (map (λ (a : Assignment). a.col_idx)) (take-filled no_pair h kept (pair_of rows)) ∙ gather-map (λ (a : Assignment). a.col_idx) kept (pair_of rows) h

  left_rows_lem : left_rows r ≡ those h (λ i. not (kept i))
  unfolding result_of
  left_rows_lem = take-filled 0 h (λ i. not (kept i)) (λ i. i)

  left_cols_lem : left_cols r ≡ those w free
  unfolding result_of
  left_cols_lem = take-filled 0 w free (λ j. j)

  rows_once : Once h (those h kept ++ those h (λ i. not (kept i)))
  rows_once = once h h kept (λ i. i) (λ i. not (kept i)) (λ i l e. l) (λ i i' l l' e e' q. q) (λ j l e. (j, l, not-false (kept j) e, refl)) (λ i l e. not_of_true e)

  -- a column has one row
  abbrev OneRow : Type 0
  OneRow = (i i' : ℕ) → i < h → i' < h → get_or rows i 0 < w → get_or rows i 0 ≡ get_or rows i' 0 → i ≡ i'

  cols_once : OneRow → Once w (gather h kept (λ i. get_or rows i 0) ++ those w free)
  cols_once one = once h w kept (λ i. get_or rows i 0) free
      (λ i l e. real m w limit rows i e)
      (λ i i' l l' e e' q. one i i' l l' (real m w limit rows i e) q)
      (λ j l e.
      let v = any_elim h (λ i. kept i && eqb (get_or rows i 0) j) (not-false (taken m w limit rows h j) e) in
      (v.0, v.1, and_left (kept v.0) (eqb (get_or rows v.0 0) j) v.2, eqb-true (get_or rows v.0 0) j (and_right (kept v.0) (eqb (get_or rows v.0 0) j) v.2)))
      (λ i l e. not_of_true (any_intro h (λ x. kept x && eqb (get_or rows x 0) (get_or rows i 0)) i l (and_both e (eq-eqb (get_or rows i 0) (get_or rows i 0) refl))))

  -- as many columns are taken as rows are kept
  module _ (one : OneRow) where
    abbrev test : ℕ → ℕ → Bool
    test j i = kept i && eqb (get_or rows i 0) j

    new : (k : ℕ) → k < h → kept k ≡ true → taken m w limit rows k (get_or rows k 0) ≡ false
    new k l e = ⊎_elim
        (λ (t : any k (test (get_or rows k 0)) ≡ true).
        let v = any_elim k (test (get_or rows k 0)) t in
        let p = and_left (kept v.0) (eqb (get_or rows v.0 0) (get_or rows k 0)) v.2 in
        let q = eqb-true (get_or rows v.0 0) (get_or rows k 0) (and_right (kept v.0) (eqb (get_or rows v.0 0) (get_or rows k 0)) v.2) in
        absurd (omega (arith, v.1, one v.0 k (omega (arith, v.1)) l (real m w limit rows v.0 p) q)))
        (λ (t : any k (test (get_or rows k 0)) ≡ false). t)
        (dec (any k (test (get_or rows k 0))))

    -- the next row changes its own column only
    other : (k j : ℕ) → (j ≡ get_or rows k 0 → ⊥) → taken m w limit rows k j ≡ taken m w limit rows (suc k) j
    unfolding any
    other k j ne = sym (rw (and_not_right (kept k) _ (ne_eqb (get_or rows k 0) j (λ q. ne (sym q)))))

    none : (k j : ℕ) → kept k ≡ false → taken m w limit rows (suc k) j ≡ taken m w limit rows k j
    unfolding any
    none k j e = rw e

    taken-count : (k : ℕ) → k ≤ h → count w (taken m w limit rows k) ≡ count k kept
    taken-count zero l = count_none w (taken m w limit rows 0) (λ j _. any-zero (test j)) ∙ sym (count-zero kept)
    taken-count (suc k) l = ⊎_elim
        (λ (e : kept k ≡ true).
        count_more w (taken m w limit rows k) (taken m w limit rows (suc k)) (get_or rows k 0) (real m w limit rows k e) (new k (omega arith) e)
        (any_intro (suc k) (test (get_or rows k 0)) k (omega arith) (and_both e (eq-eqb (get_or rows k 0) (get_or rows k 0) refl))) (λ j _ ne. other k j ne)
        ∙ ap suc (taken-count k (omega arith)) ∙ sym (count_yes k kept e))
        (λ (e : kept k ≡ false). count_same w (taken m w limit rows (suc k)) (taken m w limit rows k) (λ j _. none k j e) ∙ taken-count k (omega arith) ∙ sym (count_no k kept e))
        (dec (kept k))

  named_result : OneRow → Named h w r
  unfolding result_of
  named_result one = record {
    rows = subst (Once h) (ap (λ (x : List ℕ). x ++ those h (λ i. not (kept i))) (sym pair_rows_lem) ∙ ap (λ (x : List ℕ). pair_rows r ++ x) (sym left_rows_lem)) rows_once;
    cols = subst (Once w) (ap (λ (x : List ℕ). x ++ those w free) (sym pair_cols_lem) ∙ ap (λ (x : List ℕ). pair_cols r ++ x) (sym left_cols_lem)) (cols_once one);
    pairs_rise = subst Rising (sym pair_rows_lem) (rising h kept);
    rows_rise = subst Rising (sym left_rows_lem) (rising h (λ i. not (kept i)));
    cols_rise = subst Rising (sym left_cols_lem) (rising w free);
    row_count = count-not h kept;
    col_count = omega (arith, count-not w (taken m w limit rows h), taken-count one h (omega arith));
  }

-- ---- of every permitted answer
module _ (m : List Float) (h w : ℕ) (limit : Float) (h_some : 0 < h) (w_some : 0 < w) where
  one_row : {c p : ℕ} {R : List ℕ} → h ≤ 64 → w ≤ 64 → Solved m h w c p R → (i i' : ℕ) → i < h → i' < h → get_or R i 0 < w → get_or R i 0 ≡ get_or R i' 0 → i ≡ i'
  one_row {R = R} hh hw s i i' l l' a e =
      let t = (solved_ok m h w hh hw s).tables in
      sym (t.row_back i (omega arith) (omega arith)) ∙ ap (λ (x : ℕ). get_or s.cols x 0) e ∙ t.row_back i' (omega arith) (omega (arith, e))

  -- EACH ROW ONCE, EACH COLUMN ONCE, EACH LIST RISING
  pub named : {r : AssignmentResult} → Answered m h w limit r → r.number ≡ 0 → Named h w r
  unfolding empty_of
  named (refused x) z = absurd (x z)
  named (no_rows e z) q = absurd (omega arith)
  named (no_columns e a z) q = absurd (omega arith)
  named (found {corrections = c} {paths = p} {rows = R} e a b s) q =
      let f = fits (length m) h w e in
      named_result m h w limit R c p (one_row f.0 f.1 s)
