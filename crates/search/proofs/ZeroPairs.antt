-- Pairs at zeros: step F reaches both ends of such a pair or neither, so a correction leaves it where it is. Assumes nothing.
use Prim.Native.Nat.{ℕ, ◌<◌}
use mathlib.Core.Path.{◌≡◌, refl, sym, ap, ◌∙◌, subst}
use mathlib.Core.Bool.{Bool, true, false, true≢false}
use mathlib.Core.List.{List}
use lib.ListN.{get_or}
use lib.Ieee.{Float}
use borrow.Author.Tests.{ltb-true}
use Rattle.floats.specs.Float.{is_zero}
use Rattle.square.specs.Index.{on}
use Rattle.square.specs.Square.{at, zero_at}
use Rattle.square.proofs.Truth.{same}
use Rattle.paths.specs.State.{State, Tables, Ok, paired}
use Rattle.paths.proofs.Via.{ZeroPairs}
use Rattle.search.specs.Steps.{Reached, Corr, least_over, shifted_of, shift_of}
use Rattle.search.proofs.Grow.{cell}

shifted_alike : (a b : Bool) (m x : Float) → a ≡ b → shifted_of a b m x ≡ x
unfolding shifted_of
shifted_alike true true m x e = refl
shifted_alike true false m x e = absurd (true≢false e)
shifted_alike false true m x e = absurd (true≢false (sym e))
shifted_alike false false m x e = refl

module _ (n : ℕ) (s : State) (T : Tables n s.rows s.cols) (z : ZeroPairs s.square n s.rows) where
  -- both ends or neither
  pub both_or_none : (R C : List Bool) → Reached n s R C → (i : ℕ) → i < n → paired n s.rows i ≡ true → on R i ≡ on C (get_or s.rows i 0)
  both_or_none R C r i l p =
      let j_in : get_or s.rows i 0 < n = ltb-true (get_or s.rows i 0) n p in
      let back : get_or s.cols (get_or s.rows i 0) 0 ≡ i = T.row_back i l j_in in
      same (on R i) (on C (get_or s.rows i 0))
      (λ t. r.closed.row i (get_or s.rows i 0) l j_in t (z i l p))
      (λ t. subst (λ (x : ℕ). on R x ≡ true) back (r.closed.col (get_or s.rows i 0) j_in t (subst (λ (x : ℕ). x < n) (sym back) l)))

-- an entry whose row and column are alike stays
still : (n : ℕ) (s : State) → Ok n s → (R C : List Bool) (m : Float) (i : ℕ) → i < n → paired n s.rows i ≡ true → zero_at s.square i (get_or s.rows i 0) ≡ true
    → on R i ≡ on C (get_or s.rows i 0) → zero_at (shift_of n R C m s.square) i (get_or s.rows i 0) ≡ true
unfolding zero_at
still n s ok R C m i l p z e =
    ap is_zero (cell n ok.tables.n64 s.square ok.len s.rows s.cols R C m i (get_or s.rows i 0) l (ltb-true (get_or s.rows i 0) n p)
    ∙ shifted_alike (on R i) (on C (get_or s.rows i 0)) m (at s.square i (get_or s.rows i 0)) e) ∙ z

-- A CORRECTION keeps the pairs at zeros
pub corr_kept : {n : ℕ} {s u : State} → Ok n s → Corr n s u → ZeroPairs s.square n s.rows → ZeroPairs u.square n u.rows
corr_kept {n} {s} {u} ok a z = subst (λ (x : State). ZeroPairs x.square n x.rows) (sym a.result)
    (λ i l p. still n s ok a.R a.C (least_over s.square n a.R a.C) i l p (z i l p) (both_or_none n s ok.tables z a.R a.C a.blocked.reached i l p))
