-- What one turn of the listing does. Assumes nothing.
use Prim.Native.Nat.{ℕ, ◌+◌, ◌<◌, ◌≤◌}
use mathlib.Core.Path.{◌≡◌, refl, sym, ap, ◌∙◌, subst}
use mathlib.Core.Bool.{Bool, true, false, not, ◌&&◌}
use mathlib.Core.List.{List}
use mathlib.Core.Logic.{⊎_elim}
use native.Mathlib.Omega.{arith}
use native.Mathlib.Nat.{not-suc-le-zero}
use lib.ListN.{length, get_or, set, replicate, length-set, length-replicate}
use lib.Seq.{get_or-set_same, get_or-set_other}
use lib.Dec.{ltb, eqb}
use lib.Ieee.{Float, le}
use borrow.Author.Tests.{ltb-true, eq-eqb, ne_eqb}
use Rattle.square.specs.Index.{any, filled, on, Picked}
use Rattle.square.proofs.Truth.{and_left, and_not_right, not_of_false}
use Rattle.square.proofs.Index.{last_or_before, eq-or-not, any_more, off}
use Rattle.square.proofs.Count.{count-zero, count-le, count_same, count_all}
use Rattle.square.proofs.Gather.{gather_none, gather_same, fill_yes, fill_no, count_next, count_stay}
use Rattle.start.specs.Steps.{entry}
use Rattle.optimize.specs.declared.Assignment.{Assignment}
use Rattle.optimize.specs.declared.AssignmentResult.{AssignmentResult}
use Rattle.optimize.specs.Answer.{passes_of, keeps, taken, pair_of, no_pair, result_of, empty_of, rows_alone}
use Rattle.optimize.specs.Inner.{Listed}

module _ (m : List Float) (w : ℕ) (limit : Float) (rows : List ℕ) where
  -- a pair that passes is a real one
  pub real : (i : ℕ) → keeps m w limit rows i ≡ true → get_or rows i 0 < w
  unfolding passes_of
  real i e = ltb-true (get_or rows i 0) w (and_left (ltb (get_or rows i 0) w) (le (entry m w i (get_or rows i 0)) limit) e)

  pub listed_none : (R C : List Bool) → R ≡ replicate 64 false → C ≡ replicate 64 false → Listed m w limit rows 0 (replicate 64 no_pair) 0 R C
  unfolding any
  listed_none R C p q = record {
    pairs_are = ap (filled no_pair) (sym (gather_none (keeps m w limit rows) (pair_of rows)));
    used_is = sym (count-zero (keeps m w limit rows));
    len_rows = ap length p ∙ length-replicate 64 false;
    len_cols = ap length q ∙ length-replicate 64 false;
    row_marks = λ i l. absurd (not-suc-le-zero l);
    row_later = λ i l. ap (λ (l : List Bool). on l i) p ∙ off 64 i;
    col_marks = λ j. ap (λ (l : List Bool). on l j) q ∙ off 64 j;
  }

  module _ (k : ℕ) (pairs : List Assignment) (used : ℕ) (R C : List Bool) (v : Listed m w limit rows k pairs used R C) where
    pub few : used ≤ k
    few = omega (arith, v.used_is, count-le k (keeps m w limit rows))

    abbrev test : ℕ → ℕ → Bool
    test j i = keeps m w limit rows i && eqb (get_or rows i 0) j

    past : (R' : List Bool) → ((i : ℕ) → i < k → on R' i ≡ on R i) → on R' k ≡ keeps m w limit rows k → (i : ℕ) → i < k + 1 → on R' i ≡ keeps m w limit rows i
    past R' old here i l = ⊎_elim
        (λ (e : i ≡ k). subst (λ (x : ℕ). on R' x ≡ keeps m w limit rows x) (sym e) here)
        (λ (l' : i < k). old i l' ∙ v.row_marks i l')
        (last_or_before (omega arith))

    module _ (w64 : w ≤ 64) (k64 : k < 64) (e : keeps m w limit rows k ≡ true) where
      here : (j : ℕ) → j ≡ get_or rows k 0 → on (set C (get_or rows k 0) true) j ≡ taken m w limit rows (k + 1) j
      here j q =
          subst (λ (x : ℕ). on (set C (get_or rows k 0) true) x ≡ true) (sym q) (get_or-set_same C (get_or rows k 0) true false (omega (arith, real k e, v.len_cols)))
          ∙ sym (any_more k (test j) ∙ rw (e, eq-eqb (get_or rows k 0) j (sym q)))

      there : (j : ℕ) → (j ≡ get_or rows k 0 → ⊥) → on (set C (get_or rows k 0) true) j ≡ taken m w limit rows (k + 1) j
      there j ne =
          get_or-set_other C (get_or rows k 0) j true false ne ∙ v.col_marks j
          ∙ sym (any_more k (test j) ∙ rw (and_not_right (keeps m w limit rows k) _ (ne_eqb (get_or rows k 0) j (λ q. ne (sym q)))))

      pub listed_yes : Listed m w limit rows (k + 1) (set pairs used (pair_of rows k)) (used + 1) (set R k true) (set C (get_or rows k 0) true)
      listed_yes = record {
        pairs_are = fill_yes no_pair (keeps m w limit rows) (pair_of rows) k used pairs v.pairs_are v.used_is (omega (arith, few)) e;
        used_is = count_next (keeps m w limit rows) k used v.used_is e;
        len_rows = length-set R k true ∙ v.len_rows;
        len_cols = length-set C (get_or rows k 0) true ∙ v.len_cols;
        row_marks = past (set R k true) (λ i l. get_or-set_other R k i true false (λ q. omega arith)) (get_or-set_same R k true false (omega (arith, v.len_rows)) ∙ sym e);
        row_later = λ i l. get_or-set_other R k i true false (λ q. omega arith) ∙ v.row_later i (omega arith);
        col_marks = λ j. ⊎_elim (λ (q : j ≡ get_or rows k 0). here j q) (λ (ne : j ≡ get_or rows k 0 → ⊥). there j ne) (eq-or-not j (get_or rows k 0));
      }

    pub listed_no : keeps m w limit rows k ≡ false → Listed m w limit rows (k + 1) pairs used R C
    listed_no e = record {
      pairs_are = fill_no no_pair (keeps m w limit rows) (pair_of rows) k used pairs v.pairs_are v.used_is e;
      used_is = count_stay (keeps m w limit rows) k used v.used_is e;
      len_rows = v.len_rows;
      len_cols = v.len_cols;
      row_marks = past R (λ i l. refl) (v.row_later k (omega arith) ∙ sym e);
      row_later = λ i l. v.row_later i (omega arith);
      col_marks = λ j. v.col_marks j ∙ sym (any_more k (test j) ∙ rw e);
    }

-- the same, under other names
pub listed_at : {m : List Float} {w : ℕ} {limit : Float} {rows : List ℕ} {k : ℕ} {pairs pairs' : List Assignment} {used used' : ℕ} {R R' C C' : List Bool}
    → R' ≡ R → C' ≡ C → pairs' ≡ pairs → used' ≡ used → Listed m w limit rows k pairs used R C → Listed m w limit rows k pairs' used' R' C'
listed_at {m} {w} {limit} {rows} {k} {pairs} {pairs'} {used} {used'} {R} {R'} {C} {C'} p q r s v =
    subst (λ (x : List Assignment). Listed m w limit rows k x used' R' C') (sym r) (subst (λ (x : ℕ). Listed m w limit rows k pairs x R' C') (sym s)
    (subst (λ (x : List Bool). Listed m w limit rows k pairs used x C') (sym p) (subst (λ (x : List Bool). Listed m w limit rows k pairs used R x) (sym q) v)))

-- ---- the whole result, from the pairs and what the marks leave
module _ (m : List Float) (w : ℕ) (limit : Float) (rows : List ℕ) (h : ℕ) (pairs : List Assignment) (used : ℕ) (R C : List Bool) (v : Listed m w limit rows h pairs used R C) where
  rows_same : (i : ℕ) → i < h → not (on R i) ≡ not (keeps m w limit rows i)
  rows_same i l = ap not (v.row_marks i l)

  cols_same : (j : ℕ) → j < w → not (on C j) ≡ not (taken m w limit rows h j)
  cols_same j l = ap not (v.col_marks j)

  pub result_is : (corrections paths : ℕ) (rs cs : List ℕ) (nr nc : ℕ) → Picked false R h rs nr → Picked false C w cs nc
      → ◌≡◌ {A = AssignmentResult} (record { number = 0; assignments = pairs; num_assignments = used; unmatched_rows = rs; num_unmatched_rows = nr; unmatched_cols = cs; num_unmatched_cols = nc; corrections = corrections; paths = paths })
      (result_of m h w limit rows corrections paths)
  unfolding result_of
  result_is corrections paths rs cs nr nc p q = λ i. record {
    number = 0;
    assignments = v.pairs_are i;
    num_assignments = v.used_is i;
    unmatched_rows = (p.places_are ∙ ap (filled 0) (gather_same h (λ i. not (on R i)) (λ i. not (keeps m w limit rows i)) (λ i. i) rows_same)) i;
    num_unmatched_rows = (p.used_is ∙ count_same h (λ i. not (on R i)) (λ i. not (keeps m w limit rows i)) rows_same) i;
    unmatched_cols = (q.places_are ∙ ap (filled 0) (gather_same w (λ j. not (on C j)) (λ j. not (taken m w limit rows h j)) (λ j. j) cols_same)) i;
    num_unmatched_cols = (q.used_is ∙ count_same w (λ j. not (on C j)) (λ j. not (taken m w limit rows h j)) cols_same) i;
    corrections = corrections;
    paths = paths;
  }

-- with no mark, every row is left
pub alone_is : (h : ℕ) (places : List ℕ) (used : ℕ) → Picked false (replicate 64 false) h places used
    → ◌≡◌ {A = AssignmentResult} (record { number = 0; assignments = replicate 64 no_pair; num_assignments = 0; unmatched_rows = places; num_unmatched_rows = used; unmatched_cols = replicate 64 0; num_unmatched_cols = 0; corrections = 0; paths = 0 })
    (rows_alone h)
unfolding rows_alone
alone_is h places used p = λ i. record {
  number = 0;
  assignments = replicate 64 no_pair;
  num_assignments = 0;
  unmatched_rows = (p.places_are ∙ ap (filled 0) (gather_same h (λ i. not (on (replicate 64 false) i)) (λ _. true) (λ i. i) (λ i _. not_of_false (off 64 i)))) i;
  num_unmatched_rows = (p.used_is ∙ count_all h (λ i. not (on (replicate 64 false) i)) (λ i _. not_of_false (off 64 i))) i;
  unmatched_cols = replicate 64 0;
  num_unmatched_cols = 0;
  corrections = 0;
  paths = 0;
}

pub alone_of : (h : ℕ) (places : List ℕ) (used : ℕ) (r : AssignmentResult) → r ≡ empty_of 0 → Picked false (replicate 64 false) h places used
    → record r { unmatched_rows = places; num_unmatched_rows = used } ≡ rows_alone h
unfolding empty_of
alone_of h places used r e p =
    ap (λ (x : AssignmentResult). record x { unmatched_rows = places; num_unmatched_rows = used }) e ∙ alone_is h places used p
