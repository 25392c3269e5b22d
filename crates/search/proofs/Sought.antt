-- What the row routine, called for all free rows, says of them: the first with a path, or step F's sets; and again after a correction. Assumes nothing.
use Prim.Native.Nat.{ℕ, ◌<◌, ◌≤◌}
use mathlib.Core.Path.{◌≡◌, sym, ◌∙◌}
use mathlib.Core.Bool.{Bool, true, false}
use mathlib.Core.List.{List}
use mathlib.Core.Logic.{⊎_elim}
use native.Mathlib.Omega.{arith}
use lib.ListN.{get_or, length-replicate}
use lib.Ieee.{Float}
use borrow.Author.Tests.{ltb-true, not-true}
use Rattle.square.specs.Index.{on}
use Rattle.square.proofs.Index.{off}
use Rattle.square.proofs.Truth.{dec, not_both, not_of_false}
use Rattle.paths.specs.Inner.{Leads}
use Rattle.paths.specs.Path.{NoPathBelow}
use Rattle.paths.specs.State.{state, Tables, paired}
use Rattle.corrections.specs.Inner.{Hot}
use Rattle.search.specs.Inner.{Freed, Looked, Marked, Met}
use Rattle.search.specs.Steps.{Blocked, Closed, Reached, shift_of}
use Rattle.search.proofs.Grow.{kept}
use Rattle.search.proofs.Leads.{AllPaired, no_hit_in, leads}
use Rattle.search.proofs.NoPath.{reached_paired}
use Rattle.search.proofs.ReachOf.{clear}

-- ---- from no marks
module _ (n : ℕ) (c : List Float) (rows cols : List ℕ) (T : Tables n rows cols) (F : List Bool) (free : Freed n rows F) where
  free_on : (i : ℕ) → i < n → paired n rows i ≡ false → on F i ≡ true
  free_on i l f = free.marks i l ∙ not_of_false f

  on_free : (i : ℕ) → i < n → on F i ≡ true → paired n rows i ≡ false
  on_free i l h = not-true (paired n rows i) (sym (free.marks i l) ∙ h)

  module _ (k : ℕ) (le : k ≤ n) (R C : List Bool) (v : Looked k c n cols F clear clear R C) where
    closed : Closed c n cols (on R) (on C)
    closed = record {
      row = λ i j hi hj h z. v.grown.new_row i j hi hj h (off 64 i) z;
      col = λ j hj h l. (v.grown.new_col j hj h (off 64 j)).1;
    }

    all_paired : AllPaired n cols (on C)
    all_paired j hj h = (v.grown.new_col j hj h (off 64 j)).0

    none_below : NoPathBelow k n c rows cols
    none_below i l f = let li : i < n = omega arith in no_hit_in n (state c rows cols) T i li f (on R) (on C) closed (v.here i l (free_on i li f)) all_paired

  pub seek_path : (k : ℕ) (R C : List Bool) → k < n → Met k c n cols F clear clear R C → Leads n c rows cols k
  seek_path k R C l m =
      let le : k ≤ n = omega arith in
      let f = on_free k l m.row_on in
      record {
        tables = T;
        start_in = l;
        start_free = f;
        first = none_below k le m.R₁ m.C₁ m.before;
        hit_in = leads n (state c rows cols) T k l f m.R₁ m.C₁ R C (closed k le m.R₁ m.C₁ m.before) (all_paired k le m.R₁ m.C₁ m.before) m.least m.met;
      }

  pub seek_none : (R C : List Bool) → Looked n c n cols F clear clear R C → Blocked n (state c rows cols) R C
  seek_none R C v = let w = free.some in record {
    row = w.0;
    row_in = w.1;
    row_free = w.2;
    no_path = none_below n (omega arith) R C v;
    reached = record {
      len_row = v.grown.len_row ∙ length-replicate 64 false;
      len_col = v.grown.len_col ∙ length-replicate 64 false;
      start = λ i l f. v.here i l (free_on i l f);
      closed = closed n (omega arith) R C v;
      within = λ P Q k s. v.least P Q k (λ i h. not_both (on clear i) h (off 64 i), λ j h. not_both (on clear j) h (off 64 j)) (λ i l h. s i l (on_free i l h));
    };
  }

-- ---- after a correction: the rows reached that have a new zero are looked at again, and the sets grow
module _ (n : ℕ) (c : List Float) (rows cols : List ℕ) (R C : List Bool) (h : Marked n c rows cols R C) (m : Float) (F : List Bool) (hot : Hot n R C (shift_of n R C m c) F) (R' C' : List Bool)
    (v : Looked n (shift_of n R C m c) n cols F R C R' C') where
  abbrev c' : List Float
  c' = shift_of n R C m c

  old : Reached n (state c rows cols) R C
  old = h.blocked.reached

  again_closed : Closed c' n cols (on R') (on C')
  again_closed = record {
    row = λ i j hi hj o z. ⊎_elim
        (λ (t : on R i ≡ true). ⊎_elim
        (λ (q : on C j ≡ true). v.grown.keep_col j q)
        (λ (q : on C j ≡ false). v.own i j hi hj (hot.all i j hi hj t q z) z)
        (dec (on C j)))
        (λ (f : on R i ≡ false). v.grown.new_row i j hi hj o f z)
        (dec (on R i));
    col = λ j hj o l. ⊎_elim (λ (t : on C j ≡ true). v.grown.keep_row (get_or cols j 0) (old.closed.col j hj t l)) (λ (f : on C j ≡ false). (v.grown.new_col j hj o f).1) (dec (on C j));
  }

  again_paired : AllPaired n cols (on C')
  again_paired j hj o = ⊎_elim
      (λ (t : on C j ≡ true). ltb-true (get_or cols j 0) n (reached_paired n (state c rows cols) h.ok.tables h.blocked.no_path R C old j hj t))
      (λ (f : on C j ≡ false). (v.grown.new_col j hj o f).0)
      (dec (on C j))

  again_start : (i : ℕ) → i < n → paired n rows i ≡ false → on R' i ≡ true
  again_start i l f = v.grown.keep_row i (old.start i l f)

  pub again : Blocked n (state c' rows cols) R' C'
  again = record {
    row = h.blocked.row;
    row_in = h.blocked.row_in;
    row_free = h.blocked.row_free;
    no_path = λ i l f. no_hit_in n (state c' rows cols) h.ok.tables i l f (on R') (on C') again_closed (again_start i l f) again_paired;
    reached = record {
      len_row = v.grown.len_row ∙ old.len_row;
      len_col = v.grown.len_col ∙ old.len_col;
      start = again_start;
      closed = again_closed;
      within = λ P Q k s.
          let w = kept n h.ok.tables.n64 c h.ok.len rows cols R C m old P Q k s in
          v.least P Q k w (λ i l o. w.0 i (hot.only i l o));
    };
  }
