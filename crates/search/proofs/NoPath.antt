-- Where no free row has a path, every reached column is paired. Assumes nothing.
use Prim.Native.Nat.{ℕ, ◌<◌, ◌≤◌}
use mathlib.Core.Path.{◌≡◌, sym, subst}
use mathlib.Core.Bool.{Bool, true, false, ◌&&◌, not}
use mathlib.Core.List.{List}
use native.Mathlib.Omega.{arith}
use lib.ListN.{length, get_or}
use lib.Dec.{eqb}
use borrow.Author.Tests.{lt-ltb, eqb-true, eq-eqb, not-true}
use Rattle.square.specs.Index.{count, any, on}
use Rattle.square.specs.Square.{zero_at}
use Rattle.square.proofs.Count.{count_mono}
use Rattle.square.proofs.Index.{any_intro, any_elim}
use Rattle.square.proofs.Truth.{and_both, and_left, and_right, not_of_false}
use Rattle.paths.specs.Inner.{Good, met}
use Rattle.paths.specs.Path.{Bfs, NoPath, bfs_of}
use Rattle.paths.specs.State.{State, Tables, paired}
use Rattle.paths.proofs.Queue.{bfs_closed, bfs_good}
use Rattle.search.specs.Steps.{Closed, Reached}

module _ (n : ℕ) (s : State) (T : Tables n s.rows s.cols) (no_path : NoPath n s) where
  abbrev B : ℕ → Bfs
  B i = bfs_of s.square n s.cols i

  -- row i is in the queue of some free row's search; column j was met in one
  P : ℕ → Bool
  P i = any n (λ a. not (paired n s.rows a) && any (length (B a).queue) (λ t. eqb (get_or (B a).queue t 0) i))

  Q : ℕ → Bool
  Q j = any n (λ a. not (paired n s.rows a) && met (B a).from j)

  abbrev InP : ℕ → Type 0
  InP i = (a : ℕ) × (a < n) × (paired n s.rows a ≡ false) × (t : ℕ) × (t < length (B a).queue) × (get_or (B a).queue t 0 ≡ i)

  abbrev InQ : ℕ → Type 0
  InQ j = (a : ℕ) × (a < n) × (paired n s.rows a ≡ false) × (met (B a).from j ≡ true)

  p_elim : (i : ℕ) → P i ≡ true → InP i
  unfolding P
  p_elim i h =
      let w = any_elim n _ h in
      let f = not-true _ (and_left (not (paired n s.rows w.0)) _ w.2) in
      let v = any_elim (length (B w.0).queue) (λ t. eqb (get_or (B w.0).queue t 0) i) (and_right (not (paired n s.rows w.0)) _ w.2) in
      (w.0, w.1, f, v.0, v.1, eqb-true (get_or (B w.0).queue v.0 0) i v.2)

  p_intro : (i a : ℕ) → a < n → paired n s.rows a ≡ false → (t : ℕ) → t < length (B a).queue → get_or (B a).queue t 0 ≡ i → P i ≡ true
  unfolding P
  p_intro i a ha f t l e = any_intro n _ a ha (and_both (not_of_false f) (any_intro (length (B a).queue) (λ t. eqb (get_or (B a).queue t 0) i) t l (eq-eqb (get_or (B a).queue t 0) i e)))

  q_elim : (j : ℕ) → Q j ≡ true → InQ j
  unfolding Q
  q_elim j h =
      let w = any_elim n _ h in
      (w.0, w.1, not-true _ (and_left (not (paired n s.rows w.0)) _ w.2), and_right (not (paired n s.rows w.0)) (met (B w.0).from j) w.2)

  q_intro : (j a : ℕ) → a < n → paired n s.rows a ≡ false → met (B a).from j ≡ true → Q j ≡ true
  unfolding Q
  q_intro j a ha f m = any_intro n _ a ha (and_both (not_of_false f) m)

  good : (a : ℕ) → a < n → paired n s.rows a ≡ false → Good n s.rows s.cols a (B a)
  good a ha f = bfs_good s.square n s.rows s.cols a T ha f

  all_closed : Closed s.square n s.cols P Q
  all_closed = record {
    row = λ i j hi hj h z.
        let w = p_elim i h in
        q_intro j w.0 w.1 w.2
        (bfs_closed s.square n s.rows s.cols w.0 T w.1 w.2 (no_path w.0 w.1 w.2) w.3 w.4 j hj
        (subst (λ (x : ℕ). zero_at s.square x j ≡ true) (sym w.5) z));
    col = λ j hj h l.
        let w = q_elim j h in
        let v = (good w.0 w.1 w.2).back j hj w.3 l in
        p_intro (get_or s.cols j 0) w.0 w.1 w.2 v.0 v.1 v.2;
  }

  holds_free : (i : ℕ) → i < n → paired n s.rows i ≡ false → P i ≡ true
  holds_free i hi f = let g = good i hi f in p_intro i i hi f 0 g.some g.first

  pub reached_paired : (R C : List Bool) → Reached n s R C → (j : ℕ) → j < n → on C j ≡ true → paired n s.cols j ≡ true
  reached_paired R C r j hj h =
      let w = q_elim j ((r.within P Q all_closed holds_free).1 j h) in
      lt-ltb (get_or s.cols j 0) n ((good w.0 w.1 w.2).met_paired (no_path w.0 w.1 w.2) j hj w.3)

  pub reached_few : (R C : List Bool) → Reached n s R C → count n (on C) ≤ count n (paired n s.rows)
  reached_few R C r = omega (arith, T.same, count_mono n (on C) (paired n s.cols) (reached_paired R C r))
