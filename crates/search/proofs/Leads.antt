-- From a row of closed sets whose columns are all paired no path leads; a row from which a free column is marked has a path. Assumes nothing.
use Prim.Native.Nat.{ℕ, zero, suc, ◌<◌}
use mathlib.Core.Path.{◌≡◌, sym, subst}
use mathlib.Core.Bool.{Bool, true, false, ◌||◌}
use mathlib.Core.List.{List}
use mathlib.Core.Logic.{⊎_elim}
use native.Mathlib.Omega.{arith}
use native.Mathlib.Nat.{not-suc-le-zero}
use lib.ListN.{length, get_or}
use lib.Dec.{eqb}
use borrow.Author.Tests.{lt-ltb, eqb-true, eq-eqb}
use Rattle.square.specs.Index.{any, on}
use Rattle.square.specs.Square.{zero_at}
use Rattle.square.proofs.Index.{any_intro, any_elim, or_left, or_right, or_cases}
use Rattle.paths.specs.Inner.{Good, met}
use Rattle.paths.specs.Path.{Bfs, bfs_of}
use Rattle.paths.specs.State.{State, Tables, paired}
use Rattle.paths.proofs.Queue.{bfs_closed, bfs_good}
use Rattle.paths.proofs.Via.{Via, bfs_via}
use Rattle.search.specs.Inner.{FreeMarked, Least}
use Rattle.search.specs.Steps.{Closed}

-- the columns of Q are all paired
abbrev pub AllPaired : ℕ → List ℕ → (ℕ → Bool) → Type 0
AllPaired n cols Q = (j : ℕ) → j < n → Q j ≡ true → get_or cols j 0 < n

module _ (n : ℕ) (s : State) (T : Tables n s.rows s.cols) (a : ℕ) (a_in : a < n) (a_free : paired n s.rows a ≡ false) where
  abbrev B : Bfs
  B = bfs_of s.square n s.cols a

  good : Good n s.rows s.cols a B
  good = bfs_good s.square n s.rows s.cols a T a_in a_free

  via : Via s.square n T.n64 s.cols B
  via = bfs_via s.square n T.n64 s.cols a

  met_of : (j : ℕ) → get_or B.from j 0 < length B.queue → met B.from j ≡ true
  met_of j l = lt-ltb (get_or B.from j 0) 64 (omega (arith, good.short, T.n64))

  -- what is met from a row of closed sets lies in them
  module _ (P Q : ℕ → Bool) (k : Closed s.square n s.cols P Q) (a_on : P a ≡ true) where
    met_in : (j : ℕ) → j < n → met B.from j ≡ true → P (get_or B.queue (get_or B.from j 0) 0) ≡ true → Q j ≡ true
    met_in j hj m p = k.row (get_or B.queue (get_or B.from j 0) 0) j (good.inside (get_or B.from j 0) (via.place j hj m)) hj p (via.zero j hj m)

    queued : (b t : ℕ) → t < b → t < length B.queue → P (get_or B.queue t 0) ≡ true
    queued zero t l h = absurd (not-suc-le-zero l)
    queued (suc b) zero l h = subst (λ (x : ℕ). P x ≡ true) (sym good.first) a_on
    queued (suc b) (suc t) l h =
        let hr = good.inside (suc t) h in
        let hj = good.via_in (suc t) (omega arith) h in
        let v = good.via_from (suc t) (omega arith) h in
        let e = T.row_back (get_or B.queue (suc t) 0) hr hj in
        subst (λ (x : ℕ). P x ≡ true) e
        (k.col (get_or s.rows (get_or B.queue (suc t) 0) 0) hj
        (met_in (get_or s.rows (get_or B.queue (suc t) 0) 0) hj (met_of (get_or s.rows (get_or B.queue (suc t) 0) 0) (omega arith))
        (queued b (get_or B.from (get_or s.rows (get_or B.queue (suc t) 0) 0) 0) (omega arith) (omega arith)))
        (subst (λ (x : ℕ). x < n) (sym e) hr))

    pub no_hit_in : AllPaired n s.cols Q → B.hit ≡ 64
    no_hit_in all = ⊎_elim
        (λ (e : B.hit ≡ 64). e)
        (λ w. absurd (omega (arith, w.2, all B.hit w.0 (met_in B.hit w.0 (met_of B.hit w.1) (queued (suc (get_or B.from B.hit 0)) (get_or B.from B.hit 0) (omega arith) w.1)))))
        good.hit_or

  -- the marks R, C, closed and all paired, and what row a adds to them
  module _ (R C R' C' : List Bool) (k : Closed s.square n s.cols (on R) (on C)) (all : AllPaired n s.cols (on C))
      (least : Least s.square n s.cols R C R' C' (λ P Q. P a ≡ true)) (free : FreeMarked n s.cols C') where
    in_queue : ℕ → Bool
    in_queue i = any (length B.queue) (λ t. eqb (get_or B.queue t 0) i)

    in_queue_at : (i t : ℕ) → t < length B.queue → get_or B.queue t 0 ≡ i → in_queue i ≡ true
    unfolding in_queue
    in_queue_at i t l e = any_intro (length B.queue) (λ t. eqb (get_or B.queue t 0) i) t l (eq-eqb (get_or B.queue t 0) i e)

    P : ℕ → Bool
    P i = on R i || in_queue i

    Q : ℕ → Bool
    Q j = on C j || met B.from j

    both_closed : B.hit ≡ 64 → Closed s.square n s.cols P Q
    unfolding P Q in_queue
    both_closed none = record {
      row = λ i j hi hj h z. ⊎_elim
          (λ (o : on R i ≡ true). or_left (on C j) (met B.from j) (k.row i j hi hj o z))
          (λ (o : in_queue i ≡ true).
          let w = any_elim (length B.queue) (λ t. eqb (get_or B.queue t 0) i) o in
          or_right (on C j) (met B.from j) (bfs_closed s.square n s.rows s.cols a T a_in a_free none w.0 w.1 j hj
          (subst (λ (x : ℕ). zero_at s.square x j ≡ true) (sym (eqb-true (get_or B.queue w.0 0) i w.2)) z)))
          (or_cases (on R i) (in_queue i) h);
      col = λ j hj h l. ⊎_elim
          (λ (o : on C j ≡ true). or_left (on R (get_or s.cols j 0)) (in_queue (get_or s.cols j 0)) (k.col j hj o l))
          (λ (o : met B.from j ≡ true).
          let w = good.back j hj o l in
          or_right (on R (get_or s.cols j 0)) (in_queue (get_or s.cols j 0)) (in_queue_at (get_or s.cols j 0) w.0 w.1 w.2))
          (or_cases (on C j) (met B.from j) h);
    }

    no_none : B.hit ≡ 64 → ⊥
    unfolding P Q
    no_none none =
        let w = least P Q (both_closed none)
        (λ i h. or_left (on R i) (in_queue i) h, λ j h. or_left (on C j) (met B.from j) h)
        (or_right (on R a) (in_queue a) (in_queue_at a 0 good.some good.first)) in
        ⊎_elim
        (λ (o : on C free.0 ≡ true). omega (arith, free.3, all free.0 free.1 o))
        (λ (o : met B.from free.0 ≡ true). omega (arith, free.3, good.met_paired none free.0 free.1 o))
        (or_cases (on C free.0) (met B.from free.0) (w.1 free.0 free.2))

    pub leads : B.hit < n
    leads = ⊎_elim (λ (e : B.hit ≡ 64). absurd (no_none e)) (λ w. w.0) good.hit_or
