-- A path change is one only, keeps what every step keeps, and makes one pair more; there is one, or no free row has a path. Assumes nothing.
use Prim.Native.Nat.{ℕ, zero, suc, ◌<◌, ◌≤◌}
use mathlib.Core.Path.{◌≡◌, refl, sym, ap, ◌∙◌, subst}
use mathlib.Core.Bool.{Bool, false, not, ◌&&◌}
use mathlib.Core.List.{List}
use mathlib.Core.Logic.{◌⊎◌, inl, inr, ⊎_elim}
use native.Mathlib.Omega.{arith}
use native.Mathlib.Nat.{eq-or-lt_of_le, eq-zero-or-pos, not-suc-le-zero}
use lib.ListN.{length, get_or, set}
use lib.Dec.{ltb}
use borrow.Author.Tests.{ltb-true, ltb-false, lt-ltb, not-true}
use Rattle.square.specs.Index.{count}
use Rattle.square.proofs.Truth.{and_left, and_right, and_both, not_both, not_of_false}
use Rattle.square.proofs.Index.{lt-or-ge, First, None, first}
use Rattle.paths.specs.State.{State, state, Tables, Ok, paired}
use Rattle.paths.specs.Path.{Bfs, bfs_of, Flips, last, next, NoPath, Path}
use Rattle.paths.specs.Inner.{Good}
use Rattle.paths.proofs.Queue.{bfs_good}
use Rattle.paths.proofs.FlipKeeps.{Hang, hang_start, hang_next, prev_less, flip_ok, flips_one}

pub no_hit : (n : ℕ) → n ≤ 64 → (s : State) (row : ℕ) → (bfs_of s.square n s.cols row).hit < n → (bfs_of s.square n s.cols row).hit ≡ 64 → ⊥
no_hit n n64 s row l e = omega arith

-- ---- one path change only
module _ (n : ℕ) (n64 : n ≤ 64) where
  abbrev FlippedAt : State → State → ℕ → Type 0
  FlippedAt s u row = Flips (bfs_of s.square n s.cols row).from (bfs_of s.square n s.cols row).queue
      (get_or (bfs_of s.square n s.cols row).from (bfs_of s.square n s.cols row).hit 0) (bfs_of s.square n s.cols row).hit
      s.rows s.cols u.rows u.cols

  same_row : (s u v : State) (p : Path n s u) (q : Path n s v) → p.row ≡ q.row
  same_row s u v p q = ⊎_elim
      (λ (l : p.row < q.row). absurd (no_hit n n64 s p.row p.hit_in (q.first p.row l p.row_free)))
      (λ (le : q.row ≤ p.row). ⊎_elim (λ (e : q.row ≡ p.row). sym e)
      (λ (l : q.row < p.row). absurd (no_hit n n64 s q.row q.hit_in (p.first q.row l q.row_free)))
      (eq-or-lt_of_le le))
      (lt-or-ge p.row q.row)

  pub path_one : {s u v : State} → Path n s u → Path n s v → u ≡ v
  path_one {s} {u} {v} p q =
      let f = flips_one (subst (FlippedAt s u) (same_row s u v p q) p.flips) q.flips in
      λ i. record { square = (p.same ∙ sym q.same) i; rows = f.0 i; cols = f.1 i }

  -- ---- what a path change keeps, and the pair that it makes
  pub flipped : {s u : State} → Ok n s → Path n s u → Tables n u.rows u.cols × (count n (paired n u.rows) ≡ suc (count n (paired n s.rows)))
  flipped {s} {u} ok p =
      let g = bfs_good s.square n s.rows s.cols p.row ok.tables p.row_in p.row_free in
      let b = bfs_of s.square n s.cols p.row in
      let free = ltb-false (get_or s.rows p.row 0) n p.row_free in
      flip_ok n s.rows s.cols p.row b g ok.tables free p.flips (hang_start n s.rows s.cols p.row b g ok.tables free p.hit_in)

  pub path_ok : {s u : State} → Ok n s → Path n s u → Ok n u
  path_ok ok p = record { tables = (flipped ok p).0; len = ap length p.same ∙ ok.len }

-- ---- the flip of a path that was found ends
module _ (n : ℕ) (rows₀ cols₀ : List ℕ) (start : ℕ) (b : Bfs) (g : Good n rows₀ cols₀ start b) (T₀ : Tables n rows₀ cols₀) (free : n ≤ get_or rows₀ start 0) where
  abbrev Flipped : ℕ → ℕ → List ℕ → List ℕ → Type 0
  Flipped h j rows cols = (R : List ℕ) × (C : List ℕ) × Flips b.from b.queue h j rows cols R C

  abbrev Before : ℕ → Type 0
  Before k = (h j : ℕ) (rows cols : List ℕ) → h < k → Hang n rows₀ cols₀ start b g T₀ free h j rows cols → Flipped h j rows cols

  -- the flip ends: each step goes to an earlier place of the queue
  flips_turn : (h j : ℕ) (rows cols : List ℕ) → Hang n rows₀ cols₀ start b g T₀ free h j rows cols → Before h → Flipped h j rows cols
  flips_turn h j rows cols a rec = ⊎_elim
      (λ (e : h ≡ 0). subst (λ (x : ℕ). Flipped x j rows cols) (sym e) (set rows (get_or b.queue 0 0) j, set cols j (get_or b.queue 0 0), last))
      (λ (p : 0 < h).
      let w = rec (get_or b.from (get_or rows (get_or b.queue h 0) 0) 0) (get_or rows (get_or b.queue h 0) 0) (set rows (get_or b.queue h 0) j) (set cols j (get_or b.queue h 0))
      (prev_less n rows₀ cols₀ start b g T₀ free h j rows cols a p) (hang_next n rows₀ cols₀ start b g T₀ free h j rows cols a p) in
      (w.0, w.1, next p w.2))
      (eq-zero-or-pos h)

  flips : (k h j : ℕ) (rows cols : List ℕ) → h < k → Hang n rows₀ cols₀ start b g T₀ free h j rows cols → Flipped h j rows cols
  flips zero h j rows cols le a = absurd (not-suc-le-zero le)
  flips (suc k) h j rows cols le a = flips_turn h j rows cols a (λ h' j' rows' cols' l a'. flips k h' j' rows' cols' (omega arith) a')

-- ---- a path, or none
module _ (n : ℕ) (s : State) (ok : Ok n s) where
  abbrev hit_of : ℕ → ℕ
  hit_of i = (bfs_of s.square n s.cols i).hit

  has_path : ℕ → Bool
  has_path i = not (paired n s.rows i) && ltb (hit_of i) n

  none_at : (i : ℕ) → i < n → has_path i ≡ false → paired n s.rows i ≡ false → hit_of i ≡ 64
  unfolding has_path
  none_at i l e f = ⊎_elim (λ (p : hit_of i ≡ 64). p)
      (λ w. not_both (not (paired n s.rows i) && ltb (hit_of i) n) (and_both (not_of_false f) (lt-ltb (hit_of i) n w.0)) e)
      (bfs_good s.square n s.rows s.cols i ok.tables l f).hit_or

  path_at : First n has_path → (u : State) × Path n s u
  unfolding has_path
  path_at w =
      let i = w.0 in
      let f = not-true (paired n s.rows i) (and_left (not (paired n s.rows i)) (ltb (hit_of i) n) w.2) in
      let l = ltb-true (hit_of i) n (and_right (not (paired n s.rows i)) (ltb (hit_of i) n) w.2) in
      let g = bfs_good s.square n s.rows s.cols i ok.tables w.1 f in
      let fr = ltb-false (get_or s.rows i 0) n f in
      let b : Bfs = bfs_of s.square n s.cols i in
      let v = flips n s.rows s.cols i b g ok.tables fr (suc (get_or b.from b.hit 0)) (get_or b.from b.hit 0) b.hit s.rows s.cols (omega arith)
      (hang_start n s.rows s.cols i b g ok.tables fr l) in (
        state s.square v.0 v.1,
        record {
          row = i;
          row_in = w.1;
          row_free = f;
          first = λ x lx fx. none_at x (omega (arith, w.1)) (w.3 x lx) fx;
          hit_in = l;
          same = refl;
          flips = v.2;
        },
      )

  pub path_or_none : ((u : State) × Path n s u) ⊎ NoPath n s
  path_or_none = ⊎_elim
      (λ (w : First n has_path). inl (path_at w))
      (λ (h : None n has_path). inr (λ i l f. none_at i l (h i l) f))
      (first n has_path)
