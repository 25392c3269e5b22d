-- One run only: the sets of step F are one pair of sets, the steps exclude each other, and each leads to one state. Assumes nothing.
use Prim.Native.Nat.{ℕ, suc, ◌≤◌}
use mathlib.Core.Path.{◌≡◌, refl, sym, ap, ◌∙◌, subst}
use mathlib.Core.Bool.{Bool, false}
use mathlib.Core.List.{List}
use mathlib.Core.Logic.{⊎_elim}
use lib.Seq.{ext_get_or}
use Rattle.square.specs.Index.{on}
use Rattle.square.proofs.Truth.{same, not_both}
use Rattle.paths.specs.State.{State, state, paired}
use Rattle.paths.specs.Path.{Path}
use Rattle.paths.proofs.PathLaws.{no_hit, path_one}
use Rattle.search.specs.Steps.{Within, Reached, Full, Stuck, Stop, Corr, least_over, useful_of, shift_of}
use Rattle.search.specs.Run.{Run, stop, path, correct}

-- the sets of step F are one pair only
module _ (n : ℕ) (s : State) (R C R' C' : List Bool) (a : Reached n s R C) (b : Reached n s R' C') where
  there : Within R C (on R') (on C')
  there = a.within (on R') (on C') b.closed b.start

  back : Within R' C' (on R) (on C)
  back = b.within (on R) (on C) a.closed a.start

  pub same_rows : R ≡ R'
  same_rows = ext_get_or false R R' (a.len_row ∙ sym b.len_row) (λ i _. same (on R i) (on R' i) (there.0 i) (back.0 i))

  pub same_cols : C ≡ C'
  same_cols = ext_get_or false C C' (a.len_col ∙ sym b.len_col) (λ j _. same (on C j) (on C' j) (there.1 j) (back.1 j))

-- so what is made of them is one value only
pub same_sets : {A : Type 0} (f : List Bool → List Bool → A) (n : ℕ) (s : State) (R C R' C' : List Bool) → Reached n s R C → Reached n s R' C' → f R C ≡ f R' C'
same_sets f n s R C R' C' a b = ap (λ (X : List Bool). f X C) (same_rows n s R C R' C' a b) ∙ ap (f R') (same_cols n s R C R' C' a b)

module _ (n : ℕ) (n64 : n ≤ 64) where
  abbrev corrected : State → List Bool → List Bool → State
  corrected s R C = state (shift_of n R C (least_over s.square n R C) s.square) s.rows s.cols

  pub corr_one : {s u v : State} → Corr n s u → Corr n s v → u ≡ v
  corr_one {s} a b = a.result ∙ same_sets (corrected s) n s a.R a.C b.R b.C a.blocked.reached b.blocked.reached ∙ sym b.result

  path_corr : {s u v : State} → Path n s u → Corr n s v → ⊥
  path_corr {s} p a = no_hit n n64 s p.row p.hit_in (a.blocked.no_path p.row p.row_in p.row_free)

  path_stop : {s u : State} → Path n s u → Stop n s → ⊥
  path_stop {s} p d = ⊎_elim
      (λ (f : Full n s). not_both (paired n s.rows p.row) (f p.row p.row_in) p.row_free)
      (λ (k : Stuck n s). no_hit n n64 s p.row p.hit_in (k.blocked.no_path p.row p.row_in p.row_free))
      d

  corr_stop : {s u : State} → Corr n s u → Stop n s → ⊥
  corr_stop {s} a d = ⊎_elim
      (λ (f : Full n s). not_both (paired n s.rows a.blocked.row) (f a.blocked.row a.blocked.row_in) a.blocked.row_free)
      (λ (k : Stuck n s). not_both (useful_of (least_over s.square n a.R a.C)) a.of_use
      (same_sets (λ R C. useful_of (least_over s.square n R C)) n s a.R a.C k.R k.C a.blocked.reached k.blocked.reached ∙ k.no_use))
      d

  -- ONE RUN: two runs from one state end in one state, with the same counts
  pub one_run : {s t t' : State} {c p c' p' : ℕ} → Run n s c p t → Run n s c' p' t' → (c ≡ c') × (p ≡ p') × (t ≡ t')
  one_run (stop h) (stop h') = (refl, refl, refl)
  one_run (stop h) (path h' r) = absurd (path_stop h' h)
  one_run (stop h) (correct h' r) = absurd (corr_stop h' h)
  one_run (path h r) (stop h') = absurd (path_stop h h')
  one_run {t' = t'} {c' = c'} (path h r) (path {p = p'} h' r') =
      let w = one_run r (subst (λ (u : State). Run n u c' p' t') (path_one n n64 h' h) r') in
      (w.0, ap suc w.1, w.2)
  one_run (path h r) (correct h' r') = absurd (path_corr h h')
  one_run (correct h r) (stop h') = absurd (corr_stop h h')
  one_run (correct h r) (path h' r') = absurd (path_corr h' h)
  one_run {t' = t'} {p' = p'} (correct h r) (correct {c = c'} h' r') =
      let w = one_run r (subst (λ (u : State). Run n u c' p' t') (corr_one h' h) r') in
      (ap suc w.0, w.1, w.2)
