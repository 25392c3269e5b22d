-- The outer loop and the loop of corrections: their invariants, and what a turn does. Assumes nothing.
use Prim.Native.Nat.{ℕ, suc, ◌+◌, ◌<◌, ◌≤◌}
use mathlib.Core.Path.{◌≡◌, refl, sym, ap, ◌∙◌, subst}
use mathlib.Core.Bool.{Bool, true, false, true≢false}
use mathlib.Core.List.{List}
use mathlib.Core.Logic.{inl, inr}
use native.Mathlib.Omega.{arith}
use lib.Ieee.{Float}
use Rattle.std.proofs.Common.{Option, None, Some, MatchOption}
use Rattle.std.specs.Option.{is_some}
use Rattle.paths.specs.State.{Ok, State, state, paired}
use Rattle.paths.specs.Path.{Path}
use Rattle.paths.proofs.PathLaws.{path_ok}
use Rattle.search.specs.Steps.{Blocked, Corr, Stop, least_over, useful_of, shift_of}
use Rattle.corrections.specs.Inner.{Hot}
use Rattle.search.specs.Inner.{Corrected, CorrsEnd, Corrs, Looked, Marked, none, more}
use Rattle.search.specs.Run.{Run, correct, path, stop}
use Rattle.search.proofs.Bounds.{corr_ok}
use Rattle.search.proofs.Sought.{again}
use Rattle.search.proofs.Exists.{measure, measure_is, path_falls, corr_falls}

module _ (n : ℕ) (n64 : n ≤ 64) where
  pub record SearchInv (s₀ s : State) (corrections paths : ℕ) : Type 0 where
    pub ok : Ok n s
    pub so_far : (c p : ℕ) (t : State) → Run n s c p t → Run n s₀ (corrections + c) (paths + p) t
    pub room : corrections + paths + measure n s ≤ 4224

  pub begin : (s : State) → Ok n s → SearchInv s s 0 0
  begin s ok = record {
    ok = ok;
    so_far = λ c p t r. subst (λ (x : ℕ). Run n s (0 + c) x t) (zero_plus p) (subst (λ (x : ℕ). Run n s x p t) (zero_plus c) r);
    room = omega (arith, measure_is n s);
  }
    where
      zero_plus : (k : ℕ) → k ≡ 0 + k
      zero_plus k = omega arith

  counts_at : (s₀ t : State) (c c' p p' : ℕ) → c ≡ c' → p ≡ p' → Run n s₀ c p t → Run n s₀ c' p' t
  counts_at s₀ t c c' p p' e f r = subst (λ (x : ℕ). Run n s₀ x p' t) e (subst (λ (x : ℕ). Run n s₀ c x t) f r)

  pub path_turn : (s₀ s u : State) (c p : ℕ) → SearchInv s₀ s c p → Path n s u → SearchInv s₀ u c (p + 1)
  path_turn s₀ s u c p v h = record {
    ok = path_ok n n64 v.ok h;
    so_far = λ c' p' t r. counts_at s₀ t (c + c') (c + c') (p + suc p') ((p + 1) + p') refl (omega arith) (v.so_far c' (suc p') t (path h r));
    room = omega (arith, v.room, path_falls n n64 s u v.ok h);
  }

  pub corr_turn : (s₀ s u : State) (c p : ℕ) → SearchInv s₀ s c p → Corr n s u → SearchInv s₀ u (c + 1) p
  corr_turn s₀ s u c p v h = record {
    ok = corr_ok n n64 v.ok h;
    so_far = λ c' p' t r. counts_at s₀ t (c + suc c') ((c + 1) + c') (p + p') (p + p') (omega arith) refl (v.so_far (suc c') p' t (correct h r));
    room = omega (arith, v.room, corr_falls n n64 s u v.ok h);
  }

  pub ends : (s₀ s : State) (c p : ℕ) → SearchInv s₀ s c p → Stop n s → Run n s₀ c p s
  ends s₀ s c p v h = counts_at s₀ s (c + 0) c (p + 0) p (omega arith) (omega arith) (v.so_far 0 0 s (stop h))

  -- ---- corrections in a row
  pub corrs_room : {s u : State} {k : ℕ} → Ok n s → Corrs n s k u → Ok n u × (k + measure n u ≤ measure n s)
  corrs_room ok none = (ok, omega arith)
  corrs_room ok (more {k} {u} {t} r h) =
      let w = corrs_room ok r in
      (corr_ok n n64 w.0 h, omega (arith, w.1, corr_falls n n64 u t w.0 h))

  pub corrs_turn : (s₀ s u : State) (c p k : ℕ) → SearchInv s₀ s c p → Corrs n s k u → SearchInv s₀ u (c + k) p
  corrs_turn s₀ s u c p k v none = let e : c ≡ c + 0 = omega arith in subst (λ (x : ℕ). SearchInv s₀ s x p) e v
  corrs_turn s₀ s u c p k v (more {k = j} {u = w} {t = t} r h) =
      let e : (c + j) + 1 ≡ c + (j + 1) = omega arith in
      subst (λ (x : ℕ). SearchInv s₀ t x p) e (corr_turn s₀ w t (c + j) p (corrs_turn s₀ s w c p j v r) h)

pub full_end : (n : ℕ) (n64 : n ≤ 64) (s₀ : State) (c : List Float) (rows cols : List ℕ) (k p : ℕ) → SearchInv n n64 s₀ (state c rows cols) k p → ((i : ℕ) → i < n → paired n rows i ≡ true)
    → Run n s₀ k p (state c rows cols)
full_end n n64 s₀ c rows cols k p v h = ends n n64 s₀ (state c rows cols) k p v (inl h)

-- ---- the turns of the outer loop, from what the code's calls ensure
module _ (n : ℕ) (n64 : n ≤ 64) (s₀ : State) (c : List Float) (rows cols : List ℕ) (k p : ℕ) (v : SearchInv n n64 s₀ (state c rows cols) k p) where
  pub path_less : (rows' cols' : List ℕ) → Path n (state c rows cols) (state c rows' cols') → measure n (state c rows' cols') < measure n (state c rows cols)
  path_less rows' cols' h = path_falls n n64 (state c rows cols) (state c rows' cols') v.ok h

  module _ (b : Bool) (j : ℕ) (c' : List Float) (made : Corrected b n j c rows cols c') where
    pub corrs_again : SearchInv n n64 s₀ (state c' rows cols) (k + j) p
    corrs_again = corrs_turn n n64 s₀ (state c rows cols) (state c' rows cols) k p j v made.corrs

    pub corrs_fit : j ≤ measure n (state c rows cols)
    corrs_fit = omega (arith, (corrs_room n n64 v.ok made.corrs).1)

    pub corrs_less : b ≡ false → measure n (state c' rows cols) < measure n (state c rows cols)
    corrs_less e =
        let l : 0 < j = subst (λ (x : Bool). CorrsEnd x n j (state c' rows cols)) e made.end in
        omega (arith, (corrs_room n n64 v.ok made.corrs).1)

    pub stuck_end : b ≡ true → Run n s₀ (k + j) p (state c' rows cols)
    stuck_end e = ends n n64 s₀ (state c' rows cols) (k + j) p corrs_again (inr (subst (λ (x : Bool). CorrsEnd x n j (state c' rows cols)) e made.end))

-- no free column was met
pub none_met : (P : Type 0) (Q : ℕ → Type 0) (r : Option ℕ) → is_some r ≡ false → MatchOption r P Q → P
none_met P Q None e h = h
none_met P Q (Some row) e h = absurd (true≢false e)

-- ---- the turns of the corrections
pub record CorrInv (n : ℕ) (c₀ : List Float) (rows cols : List ℕ) (c : List Float) (R C : List Bool) (times : ℕ) : Type 0 where
  pub marked : Marked n c rows cols R C
  pub corrs : Corrs n (state c₀ rows cols) times (state c rows cols)
  pub room : times ≤ 4224

module _ (n : ℕ) (c₀ : List Float) (rows cols : List ℕ) where
  pub corr_begin : (R C : List Bool) → Marked n c₀ rows cols R C → CorrInv n c₀ rows cols c₀ R C 0
  corr_begin R C h = record { marked = h; corrs = none; room = omega arith }

  module _ (h₀ : Ok n (state c₀ rows cols)) (c : List Float) (R C : List Bool) (times : ℕ) (v : CorrInv n c₀ rows cols c R C times) (m : Float) (e : m ≡ least_over c n R C) (u : Bool) (f : u ≡ useful_of m) where
    use_is : useful_of (least_over c n R C) ≡ u
    use_is = ap useful_of (sym e) ∙ sym f

    pub corr_stuck : u ≡ false → Corrected true n times c₀ rows cols c
    corr_stuck g = record { corrs = v.corrs; end = record { R = R; C = C; blocked = v.marked.blocked; no_use = use_is ∙ g } }

    module _ (g : u ≡ true) (c' : List Float) (s : c' ≡ shift_of n R C m c) where
      corr : Corr n (state c rows cols) (state c' rows cols)
      corr = record {
        R = R;
        C = C;
        blocked = v.marked.blocked;
        of_use = use_is ∙ g;
        result = λ i. record { square = (s ∙ ap (λ (x : Float). shift_of n R C x c) e) i; rows = rows; cols = cols };
      }

      corrs_now : Corrs n (state c₀ rows cols) (times + 1) (state c' rows cols)
      corrs_now = more v.corrs corr

      pub corr_met : Corrected false n (times + 1) c₀ rows cols c'
      corr_met = record { corrs = corrs_now; end = omega arith }

      pub corr_again : (F R' C' : List Bool) → Hot n R C c' F → Looked n c' n cols F R C R' C' → CorrInv n c₀ rows cols c' R' C' (times + 1)
      corr_again F R' C' hot l =
          let n64 = h₀.tables.n64 in
          let ok' = corr_ok n n64 v.marked.ok corr in
          record {
            marked = record {
              ok = ok';
              blocked = subst (λ (x : List Float). Blocked n (state x rows cols) R' C') (sym s)
                  (again n c rows cols R C v.marked m F (subst (λ (x : List Float). Hot n R C x F) s hot) R' C' (subst (λ (x : List Float). Looked n x n cols F R C R' C') s l));
            };
            corrs = corrs_now;
            room = omega (arith, (corrs_room n n64 h₀ corrs_now).1, measure_is n (state c₀ rows cols));
          }
