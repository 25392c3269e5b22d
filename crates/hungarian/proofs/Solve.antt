-- Steps A to G in a row: what the code's calls hand on, and that they lead to one end only. Assumes nothing.
use Prim.Native.Nat.{ℕ, ◌+◌, ◌-◌, ◌≤◌, max}
use mathlib.Core.Path.{◌≡◌, sym, ap, ◌∙◌, subst}
use mathlib.Core.List.{List}
use native.Mathlib.Omega.{arith}
use lib.ListN.{take, replicate, length-replicate, replicate-append-replicate}
use lib.Seq.{take_at}
use lib.Ieee.{Float}
use Rattle.floats.specs.Float.{zero64}
use Rattle.paths.specs.State.{State, state, Ok}
use Rattle.start.specs.Steps.{pairs_of, no_pairs, padded, rows_lowered, cols_lowered, pair_rows, square_of, start_of}
use Rattle.start.proofs.StartOk.{start_ok}
use Rattle.search.specs.Run.{Run, pairs, sum_from}
use Rattle.search.proofs.Unique.{one_run}
use Rattle.search.proofs.Bounds.{run_ok, run_bounded}
use Rattle.search.proofs.Exists.{run_exists}
use Rattle.hungarian.specs.Solved.{Solved}

-- ---- the square: the first places of an array of zeros
pub zeros_part : (k m : ℕ) → k ≤ m → take k (replicate m zero64) ≡ replicate k zero64
zeros_part k m h =
    let e : m ≡ k + (m - k) = omega arith in
    ap (λ (x : ℕ). take k (replicate x zero64)) e ∙ ap (take k) (sym (replicate-append-replicate k (m - k) zero64))
    ∙ take_at (replicate k zero64) (replicate (m - k) zero64) k (length-replicate k zero64)

-- ---- the code's calls: n the larger side, c₁ c₂ c₃ the square after A, B's rows and B's columns
module _ (m : List Float) (h w n : ℕ) (hh : h ≤ 64) (hw : w ≤ 64) (ne : n ≡ max h w) (c₁ c₂ c₃ : List Float) (e₁ : c₁ ≡ padded m h w) (e₂ : c₂ ≡ rows_lowered n n c₁) (e₃ : c₃ ≡ cols_lowered n n c₂)
    (rows cols rows₀ : List ℕ) (none : rows₀ ≡ replicate 64 64) (e₄ : pairs_of rows cols ≡ pair_rows c₃ n n (pairs_of rows₀ (replicate 64 64))) where
  square_is : c₃ ≡ square_of m h w
  unfolding square_of
  square_is = e₃ ∙ ap (λ (c : List Float). cols_lowered n n c) (e₂ ∙ ap (λ (c : List Float). rows_lowered n n c) e₁)
      ∙ ap (λ (k : ℕ). cols_lowered k k (rows_lowered k k (padded m h w))) ne

  pairs_is : pairs_of rows cols ≡ pair_rows (square_of m h w) (max h w) (max h w) no_pairs
  pairs_is = e₄ ∙ ap (λ (t : List ℕ). pair_rows c₃ n n (pairs_of t (replicate 64 64))) none
      ∙ ap (λ (c : List Float). pair_rows c n n no_pairs) square_is ∙ ap (λ (k : ℕ). pair_rows (square_of m h w) k k no_pairs) ne

  start_is : state c₃ rows cols ≡ start_of m h w
  unfolding start_of
  start_is = λ i. record { square = square_is i; rows = (pairs_is i).rows; cols = (pairs_is i).cols }

  pub ok : Ok n (state c₃ rows cols)
  ok = subst (λ (k : ℕ). Ok k (state c₃ rows cols)) (sym ne) (subst (Ok (max h w)) (sym start_is) (start_ok m h w hh hw))

  pub solved : (corrections paths : ℕ) (c : List Float) (R C : List ℕ) → Run n (state c₃ rows cols) corrections paths (state c R C) → Solved m h w corrections paths R
  solved corrections paths c R C r = record {
    square = c;
    cols = C;
    run = subst (λ (k : ℕ). Run k (start_of m h w) corrections paths (state c R C)) ne (subst (λ (x : State). Run n x corrections paths (state c R C)) start_is r);
  }

-- ---- of every matrix
module _ (m : List Float) (h w : ℕ) (hh : h ≤ 64) (hw : w ≤ 64) where
  n64 : max h w ≤ 64
  n64 = omega arith

  -- one end only
  pub solved_one : {c p c' p' : ℕ} {R R' : List ℕ} → Solved m h w c p R → Solved m h w c' p' R' → (c ≡ c') × (p ≡ p') × (R ≡ R')
  solved_one a b = let e = one_run (max h w) n64 a.run b.run in (e.0, e.1, ap (λ (s : State). s.rows) e.2)

  -- there is one
  pub solved_exists : (c : ℕ) × (p : ℕ) × (R : List ℕ) × Solved m h w c p R
  solved_exists =
      let v = run_exists (max h w) n64 (start_of m h w) (start_ok m h w hh hw) in
      (v.0, v.1, v.2.rows, record { square = v.2.square; cols = v.2.cols; run = v.3 })

  -- k pairs after the first pass, n the padded side
  abbrev k : ℕ
  k = pairs (max h w) (start_of m h w)

  pub solved_bounded : {c p : ℕ} {R : List ℕ} → Solved m h w c p R → (p ≤ max h w - k) × (c ≤ sum_from k (max h w - k))
  solved_bounded s = run_bounded (max h w) n64 (start_ok m h w hh hw) s.run

  -- no column has two rows
  pub solved_ok : {c p : ℕ} {R : List ℕ} → (s : Solved m h w c p R) → Ok (max h w) (state s.square R s.cols)
  solved_ok s = run_ok (max h w) n64 (start_ok m h w hh hw) s.run
