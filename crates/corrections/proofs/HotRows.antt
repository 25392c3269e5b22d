-- The marks at the rows that have a new zero: the invariant of a correction's loop. Assumes nothing.
use Prim.Native.Nat.{ℕ, ◌+◌, ◌*◌, ◌<◌, ◌≤◌}
use mathlib.Core.Path.{◌≡◌, sym, ap, ◌∙◌, subst}
use mathlib.Core.Bool.{Bool, true, false}
use mathlib.Core.List.{List}
use mathlib.Core.Logic.{⊎_elim}
use native.Mathlib.Omega.{arith}
use native.Mathlib.Nat.{not-suc-le-zero}
use lib.ListN.{length, get_or, set, length-set}
use lib.Seq.{get_or-set_same, get_or-set_other}
use lib.Ieee.{Float, nan}
use Rattle.floats.specs.Float.{is_zero}
use Rattle.square.specs.Index.{on, Picked}
use Rattle.square.specs.Square.{at, over, zero_at}
use Rattle.square.proofs.Index.{below_more}
use Rattle.square.proofs.Picking.{picked_few, picked_in, picked_place, picked_rising}
use Rattle.square.proofs.Square.{over-at}
use Rattle.square.proofs.Truth.{dec, not_both, not_of_false}
use Rattle.corrections.specs.Inner.{Columns, Hot}
use Rattle.corrections.proofs.LoopCode.{listed}
use Rattle.corrections.specs.Correction.{correction}

pub columns_of : (wanted : Bool) (C : List Bool) (n : ℕ) (columns : List ℕ) (used : ℕ) → n ≤ 64 → Picked wanted C n columns used → Columns columns used
columns_of wanted C n columns used n64 v = record {
  few = omega (arith, picked_few wanted C n columns used v);
  inside = λ t l. omega (arith, picked_in wanted C n columns used v t l);
  rising = picked_rising wanted C n columns used v;
}

module _ (n : ℕ) (n64 : n ≤ 64) (R C : List Bool) (m : Float) (c₀ : List Float) (fits : n * 64 ≤ length c₀) where
  -- a zero of row i, column j after the correction
  abbrev New : ℕ → ℕ → Type 0
  New i j = is_zero (correction R C m i j (at c₀ i j)) ≡ true

  pub record HotInv (F : List Bool) (k : ℕ) : Type 0 where
    pub len : length F ≡ 64
    pub only : (i : ℕ) → i < k → on F i ≡ true → on R i ≡ true
    pub all : (i : ℕ) → i < k → (j : ℕ) → j < n → on R i ≡ true → on C j ≡ false → New i j → on F i ≡ true

  pub hot_none : (F : List Bool) → length F ≡ 64 → HotInv F 0
  hot_none F e = record { len = e; only = λ i l. absurd (not-suc-le-zero l); all = λ i l. absurd (not-suc-le-zero l) }

  pub hot_at : (F F' : List Bool) (k : ℕ) → F' ≡ F → HotInv F k → HotInv F' k
  hot_at F F' k e v = subst (λ (x : List Bool). HotInv x k) (sym e) v

  module _ (F : List Bool) (k : ℕ) (v : HotInv F k) (lk : k < n) (b : Bool) where
    same : on (set F k b) k ≡ b
    same = get_or-set_same F k b false (omega (arith, v.len))

    other : (i : ℕ) → i < k → on (set F k b) i ≡ on F i
    other i l = get_or-set_other F k i b false (λ e. omega arith)

    hot_more : (b ≡ true → on R k ≡ true) → ((j : ℕ) → j < n → on R k ≡ true → on C j ≡ false → New k j → b ≡ true) → HotInv (set F k b) (k + 1)
    hot_more only' all' = record {
      len = length-set F k b ∙ v.len;
      only = λ i l. below_more k (λ i. on (set F k b) i ≡ true → on R i ≡ true) (λ i l h. v.only i l (sym (other i l) ∙ h)) (λ h. only' (sym same ∙ h)) i (omega arith);
      all = λ i l. below_more k (λ i. (j : ℕ) → j < n → on R i ≡ true → on C j ≡ false → New i j → on (set F k b) i ≡ true)
          (λ i l j hj r q z. other i l ∙ v.all i l j hj r q z) (λ j hj r q z. same ∙ all' j hj r q z) i (omega arith);
    }

    -- a row of R: b says whether a listed entry is a zero now
    pub hot_row : (columns : List ℕ) (used : ℕ) → Picked false C n columns used → (c : List Float) → c ≡ over (k + 1) n (correction R C m) c₀ → on R k ≡ true
        → (b ≡ false → (t : ℕ) → t < used → is_zero (get_or c (listed k columns t) nan) ≡ false) → HotInv (set F k b) (k + 1)
    hot_row columns used p c e r none = hot_more (λ _. r) (λ j hj _ q z. ⊎_elim
        (λ (t : b ≡ true). t)
        (λ (f : b ≡ false).
        let w = picked_place false C n columns used p j hj (not_of_false q) in
        let here : at c k j ≡ correction R C m k j (at c₀ k j) = ap (λ (x : List Float). at x k j) e ∙ over-at n (correction R C m) n64 (k + 1) c₀ (omega arith) k j (omega arith) hj in
        not_both (is_zero (correction R C m k j (at c₀ k j))) z
        (ap is_zero (sym here) ∙ subst (λ (x : ℕ). is_zero (get_or c (k * 64 + x) nan) ≡ false) w.2 (none f w.0 w.1)))
        (dec b))

    pub hot_other : b ≡ false → on R k ≡ false → HotInv (set F k b) (k + 1)
    hot_other f r = hot_more (λ t. not_both b t f) (λ j hj t. not_both (on R k) t r)

  pub hot_end : (F : List Bool) (k : ℕ) (c : List Float) → n ≤ k → c ≡ over n n (correction R C m) c₀ → HotInv F k → Hot n R C c F
  unfolding zero_at
  hot_end F k c le e v = record {
    only = λ i l. v.only i (omega arith);
    all = λ i j hi hj r q z. v.all i (omega arith) j hj r q
        (ap is_zero (sym (over-at n (correction R C m) n64 n c₀ fits i j hi hj)) ∙ ap (λ (x : List Float). is_zero (at x i j)) (sym e) ∙ z);
  }
