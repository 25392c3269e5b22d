-- A run from every state in order: some step can be taken or the search stops, and what is left to do falls. Assumes nothing.
use Prim.Native.Nat.{ℕ, zero, suc, ◌+◌, ◌-◌, ◌*◌, ◌<◌, ◌≤◌}
use mathlib.Core.Path.{◌≡◌, refl, ap}
use mathlib.Core.Bool.{Bool, true, false, not}
use mathlib.Core.List.{List}
use mathlib.Core.Logic.{inl, inr, ⊎_elim}
use native.Mathlib.Omega.{arith}
use native.Mathlib.Nat.{not-suc-le-zero}
use native.Mathlib.Decide.{dec_le}
use borrow.Author.Tests.{not-true, not-false}
use Rattle.square.specs.Index.{count, on}
use Rattle.square.proofs.Truth.{dec}
use Rattle.square.proofs.Index.{First, None, first}
use Rattle.square.proofs.Count.{count_room, count-le}
use Rattle.paths.specs.State.{State, state, Ok, paired}
use Rattle.paths.specs.Path.{Path, NoPath}
use Rattle.paths.proofs.PathLaws.{flipped, path_ok, path_or_none}
use Rattle.search.specs.Steps.{Reached, Blocked, Stop, Corr, least_over, useful_of, shift_of}
use Rattle.search.specs.Run.{Run, stop, path, correct, pairs}
use Rattle.search.proofs.ReachOf.{sets}
use Rattle.search.proofs.Unique.{same_cols}
use Rattle.search.proofs.Bounds.{corr_ok, corr_pairs, corr_more}

-- ---- what is left to do: first the free rows, then the columns that are not reached
reach_if : (n : ℕ) (s : State) → Dec (n ≤ 64) → ℕ
reach_if n s (yes p) = count n (on (sets n p s).1)
reach_if n s (no p) = 0

pub reach_count : ℕ → State → ℕ
unfolding reach_if
reach_count n s = reach_if n s (dec_le n 64)

pub measure : ℕ → State → ℕ
measure n s = (n - pairs n s) * 65 + (64 - reach_count n s)

pub measure_is : (n : ℕ) (s : State) → measure n s ≡ (n - pairs n s) * 65 + (64 - reach_count n s)
unfolding measure
measure_is n s = refl

abbrev Counted : ℕ → State → ℕ → Type 0
Counted n s k = (R : List Bool) × (C : List Bool) × Reached n s R C × (k ≡ count n (on C))

counted_if : (n : ℕ) (s : State) → n ≤ 64 → (d : Dec (n ≤ 64)) → Counted n s (reach_if n s d)
unfolding reach_if
counted_if n s le (yes p) = let w = sets n p s in (w.0, w.1, w.2, refl)
counted_if n s le (no p) = absurd (p le)

counted : (n : ℕ) (s : State) → n ≤ 64 → Counted n s (reach_count n s)
unfolding reach_count
counted n s le = counted_if n s le (dec_le n 64)

module _ (n : ℕ) (n64 : n ≤ 64) where
  reach_few : (s : State) → reach_count n s ≤ n
  reach_few s = let w = counted n s n64 in omega (arith, w.3, count-le n (on w.1))

  pub path_falls : (s u : State) → Ok n s → Path n s u → measure n u < measure n s
  path_falls s u ok p = omega (arith, measure_is n s, measure_is n u, (flipped n n64 ok p).1, count_room n (paired n s.rows) p.row p.row_in p.row_free)

  more_reached : (s u : State) → Ok n s → Corr n s u → reach_count n s < reach_count n u
  more_reached s u ok a =
      let w = counted n s n64 in
      let v = counted n u n64 in
      omega (
        arith,
        w.3,
        v.3,
        ap (λ (C : List Bool). count n (on C)) (same_cols n s w.0 w.1 a.R a.C w.2 a.blocked.reached),
        corr_more n n64 ok a v.0 v.1 v.2,
      )

  pub corr_falls : (s u : State) → Ok n s → Corr n s u → measure n u < measure n s
  corr_falls s u ok a = omega (arith, measure_is n s, measure_is n u, corr_pairs n n64 a, more_reached s u ok a, reach_few u, reach_few s)

  -- ---- one step, or the stop
  data Step (s : State) : Type 0 where
    stops : Stop n s → Step s
    paths : (u : State) → Path n s u → Step s
    corrects : (u : State) → Corr n s u → Step s

  at_f : (s : State) (R C : List Bool) → Blocked n s R C → Step s
  at_f s R C b = ⊎_elim
      (λ (u : useful_of (least_over s.square n R C) ≡ true).
      corrects (state (shift_of n R C (least_over s.square n R C) s.square) s.rows s.cols) (record { R = R; C = C; blocked = b; of_use = u; result = refl }))
      (λ (u : useful_of (least_over s.square n R C) ≡ false). stops (inr (record { R = R; C = C; blocked = b; no_use = u })))
      (dec (useful_of (least_over s.square n R C)))

  abbrev free : State → ℕ → Bool
  free s i = not (paired n s.rows i)

  no_path_step : (s : State) → NoPath n s → Step s
  no_path_step s h = ⊎_elim
      (λ (w : First n (free s)).
      let v = sets n n64 s in
      at_f s v.0 v.1 (record { row = w.0; row_in = w.1; row_free = not-true (paired n s.rows w.0) w.2; no_path = h; reached = v.2 }))
      (λ (f : None n (free s)). stops (inl (λ i l. not-false (paired n s.rows i) (f i l))))
      (first n (free s))

  step : (s : State) → Ok n s → Step s
  step s ok = ⊎_elim (λ (w : (u : State) × Path n s u). paths w.0 w.1) (λ (h : NoPath n s). no_path_step s h) (path_or_none n s ok)

  -- ---- to the end
  abbrev Ends : State → Type 0
  Ends s = (c : ℕ) × (p : ℕ) × (t : State) × Run n s c p t

  turn : (s : State) → Ok n s → Step s → ((u : State) → Ok n u → measure n u < measure n s → Ends u) → Ends s
  turn s ok (stops h) rec = (0, 0, s, stop h)
  turn s ok (paths u h) rec = let w = rec u (path_ok n n64 ok h) (path_falls s u ok h) in (w.0, suc w.1, w.2, path h w.3)
  turn s ok (corrects u h) rec = let w = rec u (corr_ok n n64 ok h) (corr_falls s u ok h) in (suc w.0, w.1, w.2, correct h w.3)

  go : (k : ℕ) (s : State) → Ok n s → measure n s < k → Ends s
  go zero s ok le = absurd (not-suc-le-zero le)
  go (suc k) s ok le = turn s ok (step s ok) (λ u ok' l. go k u ok' (omega arith))

  -- A RUN EXISTS from every state in order
  pub run_exists : (s : State) → Ok n s → (c : ℕ) × (p : ℕ) × (t : State) × Run n s c p t
  run_exists s ok = go (suc (measure n s)) s ok (omega arith)
