-- A path goes through zeros: each column was met through one, so a path change keeps the pairs at zeros, and what is paired stays so. Assumes nothing.
use Prim.Native.Nat.{ℕ, zero, suc, ◌<◌, ◌≤◌}
use mathlib.Core.Path.{◌≡◌, refl, sym, ap, ◌∙◌, subst}
use mathlib.Core.Bool.{Bool, true, false, ◌&&◌}
use mathlib.Core.List.{List, [], ◌∷◌, ◌++◌}
use mathlib.Core.Logic.{⊎_elim}
use native.Mathlib.Omega.{arith}
use lib.ListN.{length, get_or, set, length-set, length-append, get_or-append, replicate, length-replicate, get_or-replicate}
use lib.Seq.{get_or-set_same, get_or-set_other}
use lib.Dec.{ltb, eqb}
use lib.Ieee.{Float}
use borrow.Author.Tests.{ltb-true, ltb-false, lt-ltb}
use Rattle.square.specs.Index.{loop}
use Rattle.square.specs.Square.{zero_at}
use Rattle.square.proofs.Truth.{and_right}
use Rattle.square.proofs.Index.{eq-or-not}
use Rattle.paths.specs.State.{State, Tables, Ok, paired}
use Rattle.paths.specs.Path.{Bfs, take_in, meet_if, meet, scan, pop_if, pop, begun, pops, bfs_of, Flips, last, next, Path}
use Rattle.paths.specs.Inner.{Good, met}
use Rattle.paths.proofs.Queue.{bfs_good}
use Rattle.paths.proofs.FlipKeeps.{Hang, hang_start, hang_next, prev_less, prev_in, paired_same, paired_other}

-- ---- a column is met through a zero
module _ (c : List Float) (n : ℕ) (n64 : n ≤ 64) (cols : List ℕ) where
  pub record Via (b : Bfs) : Type 0 where
    pub len : length b.from ≡ 64
    pub place : (j : ℕ) → j < n → met b.from j ≡ true → get_or b.from j 0 < length b.queue
    pub zero : (j : ℕ) → j < n → met b.from j ≡ true → zero_at c (get_or b.queue (get_or b.from j 0) 0) j ≡ true

  -- with the row at place h
  pub record At (h row : ℕ) (b : Bfs) : Type 0 where
    pub via : Via b
    pub h_in : h < length b.queue
    pub is_row : get_or b.queue h 0 ≡ row

  module _ (h row j : ℕ) (lj : j < n) (z : zero_at c row j ≡ true) (b : Bfs) (a : At h row b) where
    same : get_or (set b.from j h) j 0 ≡ h
    same = get_or-set_same b.from j h 0 (omega (arith, a.via.len))

    other : (k : ℕ) → (k ≡ j → ⊥) → get_or (set b.from j h) k 0 ≡ get_or b.from k 0
    other k ne = get_or-set_other b.from j k h 0 ne

    other_met : (k : ℕ) → (k ≡ j → ⊥) → met (set b.from j h) k ≡ true → met b.from k ≡ true
    other_met k ne m = ap (λ (x : ℕ). ltb x 64) (sym (other k ne)) ∙ m

    -- whatever is appended to the queue
    more : (q : List ℕ) → (hit : ℕ) → length b.queue ≤ length q → ((t : ℕ) → t < length b.queue → get_or q t 0 ≡ get_or b.queue t 0)
        → At h row (record { from = set b.from j h; queue = q; hit = hit })
    more q hit longer prefix = record {
      via = record {
        len = length-set b.from j h ∙ a.via.len;
        place = λ k lk m. ⊎_elim
            (λ (e : k ≡ j). subst (λ (x : ℕ). get_or (set b.from j h) x 0 < length q) (sym e) (rw same (omega (arith, a.h_in))))
            (λ (ne : k ≡ j → ⊥). rw (other k ne) (omega (arith, a.via.place k lk (other_met k ne m))))
            (eq-or-not k j);
        zero = λ k lk m. ⊎_elim
            (λ (e : k ≡ j). subst (λ (x : ℕ). zero_at c (get_or q (get_or (set b.from j h) x 0) 0) x ≡ true) (sym e)
            (rw (same, prefix h a.h_in, a.is_row) z))
            (λ (ne : k ≡ j → ⊥). rw (other k ne, prefix (get_or b.from k 0) (a.via.place k lk (other_met k ne m))) (a.via.zero k lk (other_met k ne m)))
            (eq-or-not k j);
      };
      h_in = omega (arith, a.h_in);
      is_row = prefix h a.h_in ∙ a.is_row;
    }

    taken : (x : Bool) (r : ℕ) → At h row (take_in x h j r b)
    unfolding take_in
    taken true r = more (b.queue ++ (r ∷ [])) b.hit (omega (arith, length-append b.queue (r ∷ []))) (λ t l. get_or-append b.queue (r ∷ []) 0 t l)
    taken false r = more b.queue j (omega arith) (λ t l. refl)

  meet_if_lem : (h row j : ℕ) → j < n → (b : Bfs) → At h row b → (x : Bool) → (eqb b.hit 64 && (eqb (get_or b.from j 0) 64 && zero_at c row j)) ≡ x → At h row (meet_if x n cols h j b)
  unfolding meet_if
  meet_if_lem h row j lj b a true e =
      taken h row j lj (and_right (eqb (get_or b.from j 0) 64) (zero_at c row j) (and_right (eqb b.hit 64) (eqb (get_or b.from j 0) 64 && zero_at c row j) e)) b a (paired n cols j) (get_or cols j 0)
  meet_if_lem h row j lj b a false e = a

  scan_via : (h row k : ℕ) → k ≤ n → (b : Bfs) → At h row b → At h row (scan c n cols h row k b)
  unfolding scan meet
  scan_via h row zero l b a = a
  scan_via h row (suc k) l b a =
      let b' : Bfs = loop k (λ j. meet c n cols h row j) b in
      meet_if_lem h row k (omega arith) b' (scan_via h row k (omega arith) b a) (eqb b'.hit 64 && (eqb (get_or b'.from k 0) 64 && zero_at c row k)) refl

  pop_if_lem : (h : ℕ) (b : Bfs) → Via b → (x : Bool) → (eqb b.hit 64 && ltb h (length b.queue)) ≡ x → Via (pop_if x c n cols h b)
  unfolding pop_if
  pop_if_lem h b v true e =
      (scan_via h (get_or b.queue h 0) n (omega arith) b
      (record { via = v; h_in = ltb-true h (length b.queue) (and_right (eqb b.hit 64) (ltb h (length b.queue)) e); is_row = refl })).via
  pop_if_lem h b v false e = v

  begun_via : (start : ℕ) → Via (begun start)
  begun_via start = record {
    len = length-replicate {A = ℕ} 64 64;
    place = λ j lj m. absurd (none j lj m);
    zero = λ j lj m. absurd (none j lj m);
  }
    where
      none : (j : ℕ) → j < n → met (replicate 64 64) j ≡ true → ⊥
      none j lj m = omega (arith, ltb-true (get_or (replicate 64 64) j 0) 64 m, get_or-replicate {A = ℕ} 64 j 64 0 (omega arith))

  pops_via : (start k : ℕ) → Via (pops c n cols start k)
  unfolding pops pop
  pops_via start zero = begun_via start
  pops_via start (suc k) =
      let b : Bfs = loop k (pop c n cols) (begun start) in
      pop_if_lem k b (pops_via start k) (eqb b.hit 64 && ltb k (length b.queue)) refl

  pub bfs_via : (start : ℕ) → Via (bfs_of c n cols start)
  unfolding bfs_of
  bfs_via start = pops_via start n

-- ---- a flip keeps the pairs at zeros, and what is paired
-- pairs are zeros
abbrev pub ZeroPairs : List Float → ℕ → List ℕ → Type 0
ZeroPairs c n rows = (i : ℕ) → i < n → paired n rows i ≡ true → zero_at c i (get_or rows i 0) ≡ true

-- what is paired stays so
abbrev pub Stays : ℕ → List ℕ → List ℕ → Type 0
Stays n t t' = (i : ℕ) → paired n t i ≡ true → paired n t' i ≡ true

set_stays : (n : ℕ) (t : List ℕ) (i v : ℕ) → i < length t → v < n → Stays n t (set t i v)
set_stays n t i v l lv k p = ⊎_elim
    (λ (e : k ≡ i). subst (λ (x : ℕ). paired n (set t i v) x ≡ true) (sym e) (paired_same n t i v l lv))
    (λ (ne : k ≡ i → ⊥). paired_other n t i v k ne ∙ p)
    (eq-or-not k i)

pub set_zeros : (c : List Float) (n : ℕ) (rows : List ℕ) (r j : ℕ) → r < length rows → zero_at c r j ≡ true → ZeroPairs c n rows → ZeroPairs c n (set rows r j)
set_zeros c n rows r j l z h i li p = ⊎_elim
    (λ (e : i ≡ r). subst (λ (x : ℕ). zero_at c x (get_or (set rows r j) x 0) ≡ true) (sym e) (rw (get_or-set_same rows r j 0 l) z))
    (λ (ne : i ≡ r → ⊥). rw (get_or-set_other rows r i j 0 ne) (h i li (sym (paired_other n rows r j i ne) ∙ p)))
    (eq-or-not i r)

module _ (c : List Float) (n : ℕ) (rows₀ cols₀ : List ℕ) (start : ℕ) (b : Bfs) (g : Good n rows₀ cols₀ start b) (T₀ : Tables n rows₀ cols₀) (free : n ≤ get_or rows₀ start 0)
    (via : Via c n T₀.n64 cols₀ b) where
  pub record Kept (rows cols R C : List ℕ) : Type 0 where
    pub zeros : ZeroPairs c n R
    pub rows_stay : Stays n rows R
    pub cols_stay : Stays n cols C

  row_of : (h : ℕ) → h < length b.queue → get_or b.queue h 0 < n
  row_of h l = g.inside h l

  pub flip_kept : {h j : ℕ} {rows cols R C : List ℕ} → Flips b.from b.queue h j rows cols R C → Hang n rows₀ cols₀ start b g T₀ free h j rows cols
      → ZeroPairs c n rows → zero_at c (get_or b.queue h 0) j ≡ true → Kept rows cols R C
  flip_kept (last {j} {rows} {cols}) a z e =
      let r = row_of 0 a.h_in in
      record {
        zeros = set_zeros c n rows (get_or b.queue 0 0) j (omega (arith, a.len_rows, T₀.n64)) e z;
        rows_stay = set_stays n rows (get_or b.queue 0 0) j (omega (arith, a.len_rows, T₀.n64)) a.j_in;
        cols_stay = set_stays n cols j (get_or b.queue 0 0) (omega (arith, a.len_cols, a.j_in, T₀.n64)) r;
      }
  flip_kept (next {h} {j} {rows} {cols} {R} {C} p f) a z e =
      let row : ℕ = get_or b.queue h 0 in
      let r = row_of h a.h_in in
      let prev : ℕ = get_or rows (get_or b.queue h 0) 0 in
      let pin : get_or rows (get_or b.queue h 0) 0 < n = prev_in n rows₀ cols₀ start b g T₀ free h j rows cols a p in
      let pl = prev_less n rows₀ cols₀ start b g T₀ free h j rows cols a p in
      let m : met b.from (get_or rows (get_or b.queue h 0) 0) ≡ true = lt-ltb (get_or b.from (get_or rows (get_or b.queue h 0) 0) 0) 64 (omega (arith, a.h_in, g.short, T₀.n64)) in
      let k = flip_kept f (hang_next n rows₀ cols₀ start b g T₀ free h j rows cols a p)
      (set_zeros c n rows (get_or b.queue h 0) j (omega (arith, a.len_rows, T₀.n64)) e z)
      (via.zero (get_or rows (get_or b.queue h 0) 0) pin m) in
      record {
        zeros = k.zeros;
        rows_stay = λ i q. k.rows_stay i (set_stays n rows (get_or b.queue h 0) j (omega (arith, a.len_rows, T₀.n64)) a.j_in i q);
        cols_stay = λ i q. k.cols_stay i (set_stays n cols j (get_or b.queue h 0) (omega (arith, a.len_cols, a.j_in, T₀.n64)) r i q);
      }

-- A PATH CHANGE keeps the pairs at zeros, and what is paired
pub path_kept : {n : ℕ} {s u : State} → Ok n s → Path n s u → ZeroPairs s.square n s.rows
    → ZeroPairs s.square n u.rows × Stays n s.rows u.rows × Stays n s.cols u.cols
path_kept {n} {s} {u} ok p z =
    let T = ok.tables in
    let b : Bfs = bfs_of s.square n s.cols p.row in
    let g = bfs_good s.square n s.rows s.cols p.row T p.row_in p.row_free in
    let fr = ltb-false (get_or s.rows p.row 0) n p.row_free in
    let v = bfs_via s.square n T.n64 s.cols p.row in
    let hang = hang_start n s.rows s.cols p.row b g T fr p.hit_in in
    let m : met b.from b.hit ≡ true = lt-ltb (get_or b.from b.hit 0) 64 (omega (arith, hang.h_in, g.short, T.n64)) in
    let k = flip_kept s.square n s.rows s.cols p.row b g T fr v p.flips hang z (v.zero b.hit p.hit_in m) in
    (k.zeros, k.rows_stay, k.cols_stay)
