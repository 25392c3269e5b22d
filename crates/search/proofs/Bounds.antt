-- How long a run can be: a path change adds a pair, and a correction that follows a correction has reached more columns. Assumes nothing.
use Prim.Native.Nat.{ℕ, zero, suc, ◌+◌, ◌-◌, ◌<◌, ◌≤◌}
use mathlib.Core.Path.{◌≡◌, refl, sym, ap, ◌∙◌, subst}
use mathlib.Core.Bool.{Bool}
use mathlib.Core.List.{List}
use native.Mathlib.Omega.{arith}
use Rattle.square.specs.Index.{count, on}
use Rattle.square.proofs.Count.{count_room, count-le}
use Rattle.square.proofs.Square.{over-length}
use Rattle.paths.specs.State.{State, Ok, paired}
use Rattle.paths.specs.Path.{Path}
use Rattle.paths.proofs.PathLaws.{flipped, path_ok}
use Rattle.search.specs.Steps.{Reached, Corr, least_over, correction}
use Rattle.search.specs.Run.{Run, stop, path, correct, pairs, sum_from}
use Rattle.search.proofs.Grow.{useful_finite, grows}
use Rattle.search.proofs.NoPath.{reached_few}

module _ (n : ℕ) (n64 : n ≤ 64) where
  -- ---- what a correction keeps
  pub corr_ok : {s u : State} → Ok n s → Corr n s u → Ok n u
  corr_ok {s} {u} ok a = subst (Ok n) (sym a.result) (record {
    tables = ok.tables;
    len = over-length n (correction a.R a.C (least_over s.square n a.R a.C)) n s.square ∙ ok.len;
  })

  pub corr_pairs : {s u : State} → Corr n s u → pairs n u ≡ pairs n s
  corr_pairs a = ap (pairs n) a.result

  pub run_ok : {s t : State} {c p : ℕ} → Ok n s → Run n s c p t → Ok n t
  run_ok ok (stop h) = ok
  run_ok ok (path h r) = run_ok (path_ok n n64 ok h) r
  run_ok ok (correct h r) = run_ok (corr_ok ok h) r

  -- the columns reached at a correction
  abbrev columns : {s u : State} → Corr n s u → ℕ
  columns a = count n (on a.C)

  path_room : {s u : State} → Path n s u → pairs n s < n
  path_room {s} p = count_room n (paired n s.rows) p.row p.row_in p.row_free

  corr_room : {s u : State} → Corr n s u → pairs n s < n
  corr_room {s} a = count_room n (paired n s.rows) a.blocked.row a.blocked.row_in a.blocked.row_free

  -- the columns reached are all paired
  corr_few : {s u : State} → Ok n s → (a : Corr n s u) → columns a ≤ pairs n s
  corr_few {s} ok a = reached_few n s ok.tables a.blocked.no_path a.R a.C a.blocked.reached

  -- a correction reaches more, whatever comes next
  pub corr_more : {s u : State} → Ok n s → (a : Corr n s u) (R C : List Bool) → Reached n u R C → columns a < count n (on C)
  corr_more {s} {u} ok a R C r =
      grows n n64 s.square ok.len s.rows s.cols a.R a.C (least_over s.square n a.R a.C) R C a.blocked.reached
      (subst (λ (x : State). Reached n x R C) a.result r) refl (useful_finite _ a.of_use)

  -- ---- the counting
  sum_path : (k d c seen : ℕ) → c ≤ sum_from (suc k) d - 0 → seen ≤ suc k → c ≤ sum_from k (suc d) - seen
  unfolding sum_from
  sum_path k d c seen h few = omega arith

  sum_corr : (k d c seen q : ℕ) → seen ≤ q → q ≤ k → c ≤ sum_from k (suc d) - suc q → suc c ≤ sum_from k (suc d) - seen
  unfolding sum_from
  sum_corr k d c seen q low few h = omega arith

  abbrev Bound : State → ℕ → ℕ → ℕ → ℕ → Type 0
  Bound s d seen c p = (p ≤ d) × (c ≤ sum_from (pairs n s) d - seen)

  bound_path : (s u : State) (d seen c p : ℕ) → pairs n s < n → pairs n s + d ≡ n → seen ≤ suc (pairs n s) → pairs n u ≡ suc (pairs n s)
      → ((d' : ℕ) → pairs n u + d' ≡ n → Bound u d' 0 c p) → Bound s d seen c (suc p)
  bound_path s u zero seen c p room e few one ih = absurd (omega arith)
  bound_path s u (suc d) seen c p room e few one ih =
      let r = ih d (omega arith) in
      (omega arith, sum_path (pairs n s) d c seen (subst (λ (k : ℕ). c ≤ sum_from k d - 0) one r.1) few)

  bound_corr : (s u : State) (d seen q c p : ℕ) → pairs n s < n → pairs n s + d ≡ n → seen ≤ q → q ≤ pairs n s → pairs n u ≡ pairs n s
      → Bound u d (suc q) c p → Bound s d seen (suc c) p
  bound_corr s u zero seen q c p room e low few kept ih = absurd (omega arith)
  bound_corr s u (suc d) seen q c p room e low few kept ih =
      (ih.0, sum_corr (pairs n s) d c seen q low few (subst (λ (k : ℕ). c ≤ sum_from k (suc d) - suc q) kept ih.1))

  -- seen: the columns that the correction before is known to have reached, and one more; 0 where a path change came last
  bound : {s t : State} {c p : ℕ} (d seen : ℕ) → Ok n s → pairs n s + d ≡ n → seen ≤ suc (pairs n s)
      → ((u : State) (a : Corr n s u) → seen ≤ columns a) → Run n s c p t → Bound s d seen c p
  bound d seen ok e few low (stop h) = (omega arith, omega arith)
  bound d seen ok e few low (path {s} {u} {t} {c} {p} h r) =
      bound_path s u d seen c p (path_room h) e few (flipped n n64 ok h).1
      (λ d' e'. bound d' 0 (path_ok n n64 ok h) e' (omega arith) (λ _ _. omega arith) r)
  bound d seen ok e few low (correct {s} {u} {t} {c} {p} a r) =
      bound_corr s u d seen (columns a) c p (corr_room a) e (low u a) (corr_few ok a) (corr_pairs a)
      (bound d (suc (columns a)) (corr_ok ok a) (subst (λ (k : ℕ). k + d ≡ n) (sym (corr_pairs a)) e)
      (subst (λ (k : ℕ). suc (columns a) ≤ suc k) (sym (corr_pairs a)) (omega (arith, corr_few ok a)))
      (λ v b. corr_more ok a b.R b.C b.blocked.reached) r)

  -- THE BOUNDS: with k pairs at the start, at most n - k path changes and (k + 1) + .. + n corrections
  pub run_bounded : {s t : State} {c p : ℕ} → Ok n s → Run n s c p t → (p ≤ n - pairs n s) × (c ≤ sum_from (pairs n s) (n - pairs n s))
  run_bounded {s} ok r =
      let few : pairs n s ≤ n = count-le n (paired n s.rows) in
      let b = bound (n - pairs n s) 0 ok (omega arith) (omega arith) (λ _ _. omega arith) r in
      (b.0, omega (arith, b.1))
