-- The row routine called for row after row: the loop's invariant. Assumes nothing.
use Prim.Native.Nat.{ℕ, ◌+◌}
use mathlib.Core.Path.{◌≡◌, sym, subst}
use mathlib.Core.Bool.{Bool, true, false}
use mathlib.Core.List.{List}
use native.Mathlib.Omega.{arith}
use native.Mathlib.Nat.{not-suc-le-zero}
use lib.Ieee.{Float}
use Rattle.square.specs.Index.{on}
use Rattle.square.specs.Square.{zero_at}
use Rattle.square.proofs.Index.{below_more}
use Rattle.square.proofs.Truth.{not_both}
use Rattle.search.specs.Inner.{Looked, Met, RowDone}
use Rattle.search.proofs.Marks.{grown_more, grown_none}

module _ (c : List Float) (n : ℕ) (cols : List ℕ) (F R₀ C₀ : List Bool) where
  pub begin : Looked 0 c n cols F R₀ C₀ R₀ C₀
  begin = record {
    here = λ i l. absurd (not-suc-le-zero l);
    own = λ i j l. absurd (not-suc-le-zero l);
    grown = grown_none c n cols R₀ C₀;
    least = λ P Q k w s. w;
  }

  pub looked_at : (k : ℕ) (R C R' C' : List Bool) → R' ≡ R → C' ≡ C → Looked k c n cols F R₀ C₀ R C → Looked k c n cols F R₀ C₀ R' C'
  looked_at k R C R' C' p q v = subst (λ (r : List Bool). Looked k c n cols F R₀ C₀ r C') (sym p) (subst (λ (d : List Bool). Looked k c n cols F R₀ C₀ R d) (sym q) v)

  pub whole : (k : ℕ) (R C : List Bool) → k ≡ n → Looked k c n cols F R₀ C₀ R C → Looked n c n cols F R₀ C₀ R C
  whole k R C e v = subst (λ (x : ℕ). Looked x c n cols F R₀ C₀ R C) e v

  module _ (k : ℕ) (R C : List Bool) (v : Looked k c n cols F R₀ C₀ R C) where
    pub skip : on F k ≡ false → Looked (k + 1) c n cols F R₀ C₀ R C
    skip f = record {
      here = λ i l. below_more k (λ i. on F i ≡ true → on R i ≡ true) v.here (λ t. not_both (on F k) t f) i (omega arith);
      own = λ i j l hj. below_more k (λ i. on F i ≡ true → zero_at c i j ≡ true → on C j ≡ true) (λ i l. v.own i j l hj) (λ t. not_both (on F k) t f) i (omega arith);
      grown = v.grown;
      least = λ P Q h w s. v.least P Q h w (λ i l. s i (omega arith));
    }

    pub turn : (R' C' : List Bool) → on F k ≡ true → (b : Bool) → b ≡ false → RowDone b c n cols k R C R' C' → Looked (k + 1) c n cols F R₀ C₀ R' C'
    turn R' C' t b f h = let d = subst (λ (x : Bool). RowDone x c n cols k R C R' C') f h in record {
      here = λ i l. below_more k (λ i. on F i ≡ true → on R' i ≡ true) (λ i l f. d.end.grown.keep_row i (v.here i l f)) (λ _. d.end.here) i (omega arith);
      own = λ i j l hj. below_more k (λ i. on F i ≡ true → zero_at c i j ≡ true → on C' j ≡ true)
          (λ i l f z. d.end.grown.keep_col j (v.own i j l hj f z)) (λ _ z. d.end.own j hj z) i (omega arith);
      grown = grown_more c n cols R₀ C₀ R C R' C' v.grown d.end.grown;
      least = λ P Q h w s. d.least P Q h (v.least P Q h w (λ i l. s i (omega arith))) (s k (omega arith) t);
    }

    pub met_at : (R' C' : List Bool) → on F k ≡ true → (b : Bool) → b ≡ true → RowDone b c n cols k R C R' C' → Met k c n cols F R₀ C₀ R' C'
    met_at R' C' t b e h = let d = subst (λ (x : Bool). RowDone x c n cols k R C R' C') e h in record { R₁ = R; C₁ = C; before = v; row_on = t; least = d.least; met = d.end }
