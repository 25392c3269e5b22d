-- Step E's loops: the arrays hold what `pops` and `scan` say. Assumes nothing.
use Prim.Native.Nat.{ℕ, suc, ◌+◌, ◌<◌, ◌≤◌}
use mathlib.Core.Path.{◌≡◌, refl, sym, ap, ◌∙◌, subst}
use mathlib.Core.Bool.{Bool, true, false, ◌&&◌}
use mathlib.Core.List.{List, [], ◌∷◌, ◌++◌}
use mathlib.Core.Logic.{◌⊎◌, ⊎_elim}
use native.Mathlib.Omega.{arith}
use native.Mathlib.Numerals.{add-one}
use lib.ListN.{length, get_or, set, take, replicate, length-set, length-append}
use lib.Seq.{get_or-take, take-suc-set}
use lib.Dec.{ltb, eqb}
use lib.Ieee.{Float}
use borrow.Author.Tests.{lt-ltb, le-ltb, eq-eqb, ne_eqb}
use Rattle.square.specs.Square.{zero_at}
use Rattle.square.proofs.Index.{loop_more, loop_stable}
use Rattle.square.proofs.Truth.{and_both, and_not_left, and_not_right}
use Rattle.paths.specs.Inner.{Begins, Good, Holds}
use Rattle.paths.specs.Path.{Bfs, begun, bfs_of, meet, pop, pops, scan, take_in}
use Rattle.paths.specs.State.{paired}
use Rattle.paths.proofs.Queue.{Popped, Row, pops_is, scan_is}

-- where a column was met that is free, nothing changes any more
meet_hit : (c : List Float) (n : ℕ) (cols : List ℕ) (h row j : ℕ) (b : Bfs) → (b.hit ≡ 64 → ⊥) → meet c n cols h row j b ≡ b
unfolding meet
meet_hit c n cols h row j b ne = rw (and_not_left (eqb b.hit 64) (eqb (get_or b.from j 0) 64 && zero_at c row j) (ne_eqb b.hit 64 ne))

meet_skip : (c : List Float) (n : ℕ) (cols : List ℕ) (h row j : ℕ) (b : Bfs) → ((get_or b.from j 0 ≡ 64 → ⊥) ⊎ (zero_at c row j ≡ false)) → meet c n cols h row j b ≡ b
unfolding meet
meet_skip c n cols h row j b d = rw (and_not_right (eqb b.hit 64) (eqb (get_or b.from j 0) 64 && zero_at c row j)
    (⊎_elim (λ (ne : get_or b.from j 0 ≡ 64 → ⊥). and_not_left (eqb (get_or b.from j 0) 64) (zero_at c row j) (ne_eqb (get_or b.from j 0) 64 ne))
    (λ (z : zero_at c row j ≡ false). and_not_right (eqb (get_or b.from j 0) 64) (zero_at c row j) z) d))

meet_take : (c : List Float) (n : ℕ) (cols : List ℕ) (h row j : ℕ) (b : Bfs) → b.hit ≡ 64 → get_or b.from j 0 ≡ 64 → zero_at c row j ≡ true
    → meet c n cols h row j b ≡ take_in (paired n cols j) h j (get_or cols j 0) b
unfolding meet
meet_take c n cols h row j b e u z = rw (and_both (eq-eqb b.hit 64 e) (and_both (eq-eqb (get_or b.from j 0) 64 u) z))

take_pair : (x : Bool) (h j r : ℕ) (b : Bfs) → x ≡ true → take_in x h j r b ≡ record { from = set b.from j h; queue = b.queue ++ (r ∷ []); hit = b.hit }
unfolding take_in
take_pair x h j r b e = rw e

take_free : (x : Bool) (h j r : ℕ) (b : Bfs) → x ≡ false → take_in x h j r b ≡ record { from = set b.from j h; queue = b.queue; hit = j }
unfolding take_in
take_free x h j r b e = rw e

module _ (c : List Float) (n : ℕ) (cols : List ℕ) (start : ℕ) (bg : Begins n cols start) where
  abbrev popped : (k : ℕ) → Popped c n bg.rows cols start bg.tables bg.start_in bg.start_free k (pops c n cols start k)
  popped k = pops_is c n bg.rows cols start bg.tables bg.start_in bg.start_free k

  pub record BfsInv (from queue : List ℕ) (head tail hit : ℕ) : Type 0 where
    pub holds : Holds (pops c n cols start head) from queue hit tail
    pub no_hit : hit ≡ 64
    pub at_most : head ≤ tail

  pub record ScanInv (head row : ℕ) (from queue : List ℕ) (tail hit col : ℕ) : Type 0 where
    pub holds : Holds (scan c n cols head row col (pops c n cols start head)) from queue hit tail
    pub no_hit : hit ≡ 64
    pub at_most : col ≤ n
    pub row_is : row ≡ get_or (pops c n cols start head).queue head 0
    pub head_in : head < length (pops c n cols start head).queue

  pub begin : (from queue : List ℕ) → from ≡ replicate 64 64 → length queue ≡ 64 → BfsInv from (set queue 0 start) 0 1 64
  unfolding pops
  begin from queue e l = record {
    holds = record {
      from_is = e;
      queue_is = take-suc-set queue 0 start (omega arith);
      tail_is = refl;
      hit_is = refl;
      len = length-set queue 0 start ∙ l;
    };
    no_hit = refl;
    at_most = omega arith;
  }

  module _ (from queue : List ℕ) (head tail hit : ℕ) (v : BfsInv from queue head tail hit) where
    abbrev B : Bfs
    B = pops c n cols start head

    pub tail_n : tail ≤ n
    tail_n = omega (arith, v.holds.tail_is, (popped head).good.short)

    same_place : (t : ℕ) → t < tail → get_or queue t 0 ≡ get_or B.queue t 0
    same_place t l = sym (get_or-take tail queue t 0 l) ∙ ap (λ (q : List ℕ). get_or q t 0) v.holds.queue_is

    pub row_n : head < tail → get_or queue head 0 < n
    row_n l = omega (arith, same_place head l, (popped head).good.inside head (omega (arith, v.holds.tail_is)))

    pub row_begin : head < tail → ScanInv head (get_or queue head 0) from queue tail hit 0
    unfolding scan
    row_begin l = record {
      holds = v.holds;
      no_hit = v.no_hit;
      at_most = omega arith;
      row_is = same_place head l;
      head_in = omega (arith, v.holds.tail_is);
    }

    pub finish : tail ≤ head → Holds (bfs_of c n cols start) from queue hit tail
    unfolding bfs_of pops
    finish le = subst (λ (b : Bfs). Holds b from queue hit tail) (sym
        (loop_stable (pop c n cols) (begun start) head (λ i li. pop_none i li) n (omega (arith, tail_n, v.at_most)))) v.holds
      where
        pop_none : (i : ℕ) → head ≤ i → pop c n cols i B ≡ B
        pop_none i li = rw (and_not_right (eqb B.hit 64) (ltb i (length B.queue)) (le-ltb i (length B.queue) (omega (arith, v.holds.tail_is))))

  module _ (head row : ℕ) (from queue : List ℕ) (tail hit col : ℕ) (v : ScanInv head row from queue tail hit col) where
    abbrev P : Bfs
    P = pops c n cols start head

    abbrev S : Bfs
    S = scan c n cols head row col P

    scanned : Row c n bg.rows cols start bg.tables bg.start_in bg.start_free row col P S
    scanned = scan_is c n bg.rows cols start bg.tables bg.start_in bg.start_free P (popped head).good head row col v.at_most v.head_in

    pub head_64 : head < 64
    head_64 = omega (arith, v.head_in, (popped head).good.short, bg.tables.n64)

    scan_more : scan c n cols head row (col + 1) P ≡ meet c n cols head row col S
    unfolding scan
    scan_more = loop_more col (λ j. meet c n cols head row j) P

    pub skip : (from' queue' : List ℕ) (tail' hit' : ℕ) → from' ≡ from → queue' ≡ queue → tail' ≡ tail → hit' ≡ hit
        → col < n → ((get_or from col 0 ≡ 64 → ⊥) ⊎ (zero_at c row col ≡ false)) → ScanInv head row from' queue' tail' hit' (col + 1)
    skip from' queue' tail' hit' p q r s l d = record {
      holds = subst (λ (b : Bfs). Holds b from' queue' hit' tail') (sym (scan_more ∙ meet_skip c n cols head row col S (subst (λ (f : List ℕ). (get_or f col 0 ≡ 64 → ⊥) ⊎ (zero_at c row col ≡ false)) v.holds.from_is d)))
          (record {
            from_is = p ∙ v.holds.from_is;
            queue_is = ap (λ (q : List ℕ). take tail' q) q ∙ ap (λ (t : ℕ). take t queue) r ∙ v.holds.queue_is;
            tail_is = r ∙ v.holds.tail_is;
            hit_is = s ∙ v.holds.hit_is;
            len = ap length q ∙ v.holds.len;
          });
      no_hit = s ∙ v.no_hit;
      at_most = omega arith;
      row_is = v.row_is;
      head_in = v.head_in;
    }

    module _ (cl : col < n) (u : get_or from col 0 ≡ 64) (z : zero_at c row col ≡ true) where
      met_now : meet c n cols head row col S ≡ take_in (paired n cols col) head col (get_or cols col 0) S
      met_now = meet_take c n cols head row col S (sym v.holds.hit_is ∙ v.no_hit) (subst (λ (f : List ℕ). get_or f col 0 ≡ 64) v.holds.from_is u) z

      next_good : Good n bg.rows cols start (scan c n cols head row (col + 1) P)
      next_good = subst (λ (k : ℕ). Good n bg.rows cols start (scan c n cols head row k P)) (sym (add-one col))
          (scan_is c n bg.rows cols start bg.tables bg.start_in bg.start_free P (popped head).good head row (suc col) (omega arith) v.head_in).good

      module _ (pl : get_or cols col 0 < n) where
        abbrev S' : Bfs
        S' = record { from = set S.from col head; queue = S.queue ++ (get_or cols col 0 ∷ []); hit = S.hit }

        pushed : scan c n cols head row (col + 1) P ≡ S'
        pushed = scan_more ∙ met_now ∙ take_pair (paired n cols col) head col (get_or cols col 0) S (lt-ltb (get_or cols col 0) n pl)

        pub tail_64 : tail < 64
        tail_64 = omega (
          arith,
          v.holds.tail_is,
          bg.tables.n64,
          length-append S.queue (get_or cols col 0 ∷ []),
          subst (λ (b : Bfs). length b.queue ≤ n) pushed next_good.short,
        )

        pub push : (from' queue' : List ℕ) (tail' hit' : ℕ) → from' ≡ set from col head → queue' ≡ set queue tail (get_or cols col 0) → tail' ≡ tail + 1 → hit' ≡ hit
            → ScanInv head row from' queue' tail' hit' (col + 1)
        push from' queue' tail' hit' p q r s = record {
          holds = subst (λ (b : Bfs). Holds b from' queue' hit' tail') (sym pushed) (record {
            from_is = p ∙ ap (λ (f : List ℕ). set f col head) v.holds.from_is;
            queue_is = ap (λ (q : List ℕ). take tail' q) q ∙ ap (λ (t : ℕ). take t (set queue tail (get_or cols col 0))) (r ∙ add-one tail)
                ∙ take-suc-set queue tail (get_or cols col 0) (omega (arith, tail_64, v.holds.len)) ∙ ap (λ (q : List ℕ). q ++ (get_or cols col 0 ∷ [])) v.holds.queue_is;
            tail_is = omega (arith, r, v.holds.tail_is, length-append S.queue (get_or cols col 0 ∷ []));
            hit_is = s ∙ v.holds.hit_is;
            len = ap length q ∙ length-set queue tail (get_or cols col 0) ∙ v.holds.len;
          });
          no_hit = s ∙ v.no_hit;
          at_most = omega arith;
          row_is = v.row_is;
          head_in = v.head_in;
        }

      module _ (fl : n ≤ get_or cols col 0) where
        abbrev F : Bfs
        F = record { from = set S.from col head; queue = S.queue; hit = col }

        ended : scan c n cols head row (col + 1) P ≡ F
        ended = scan_more ∙ met_now ∙ take_free (paired n cols col) head col (get_or cols col 0) S (le-ltb (get_or cols col 0) n fl)

        not_64 : col ≡ 64 → ⊥
        not_64 e = omega (arith, bg.tables.n64)

        row_over : scan c n cols head row n P ≡ F
        unfolding scan
        row_over = loop_stable (λ j. meet c n cols head row j) P (col + 1)
            (λ i _. subst (λ (b : Bfs). meet c n cols head row i b ≡ b) (sym ended) (meet_hit c n cols head row i F not_64)) n (omega arith) ∙ ended

        pop_over : pops c n cols start (head + 1) ≡ F
        unfolding pops
        pop_over = loop_more head (pop c n cols) (begun start)
            ∙ rw (and_both (eq-eqb P.hit 64 (scanned.after.hit_stays (sym v.holds.hit_is ∙ v.no_hit))) (lt-ltb head (length P.queue) v.head_in))
            (ap (λ (r : ℕ). scan c n cols head r n P) (sym v.row_is) ∙ row_over)

        all_over : bfs_of c n cols start ≡ F
        unfolding bfs_of pops
        all_over = loop_stable (pop c n cols) (begun start) (head + 1)
            (λ i _. subst (λ (b : Bfs). pop c n cols i b ≡ b) (sym pop_over) (pop_hit i)) n (omega (arith, v.head_in, (popped head).good.short)) ∙ pop_over
          where
            pop_hit : (i : ℕ) → pop c n cols i F ≡ F
            pop_hit i = rw (and_not_left (eqb F.hit 64) (ltb i (length F.queue)) (ne_eqb col 64 not_64))

        pub ends : Holds (bfs_of c n cols start) (set from col head) queue col tail
        ends = subst (λ (b : Bfs). Holds b (set from col head) queue col tail) (sym all_over) (record {
          from_is = ap (λ (f : List ℕ). set f col head) v.holds.from_is;
          queue_is = v.holds.queue_is;
          tail_is = v.holds.tail_is;
          hit_is = refl;
          len = v.holds.len;
        })

    -- a row that is passed whole, with no free column met
    popped_next : col ≡ n → pops c n cols start (head + 1) ≡ S
    unfolding pops
    popped_next e = loop_more head (pop c n cols) (begun start)
        ∙ rw (and_both (eq-eqb P.hit 64 (scanned.after.hit_stays (sym v.holds.hit_is ∙ v.no_hit))) (lt-ltb head (length P.queue) v.head_in))
        (ap (λ (r : ℕ). scan c n cols head r n P) (sym v.row_is) ∙ ap (λ (k : ℕ). scan c n cols head row k P) (sym e))

    pub row_end : n ≤ col → BfsInv from queue (head + 1) tail hit
    row_end le = record {
      holds = subst (λ (b : Bfs). Holds b from queue hit tail) (sym (popped_next (omega (arith, v.at_most)))) v.holds;
      no_hit = v.no_hit;
      at_most = omega (arith, v.head_in, v.holds.tail_is, scanned.after.longer);
    }
