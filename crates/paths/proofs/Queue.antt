-- What holds of the queue of step E at each moment. Assumes nothing.
use Prim.Native.Nat.{ℕ, zero, suc, ◌<◌, ◌≤◌}
use mathlib.Core.Path.{◌≡◌, refl, sym, ap, ◌∙◌, subst}
use mathlib.Core.Bool.{Bool, true, false, true≢false, ◌&&◌}
use mathlib.Core.List.{List, [], ◌∷◌, ◌++◌}
use mathlib.Core.Logic.{◌⊎◌, inl, inr, ⊎_elim}
use native.Mathlib.Omega.{arith}
use native.Mathlib.Nat.{not-suc-le-zero}
use lib.ListN.{length, get_or, set, length-set, length-append, get_or-append, replicate, length-replicate, get_or-replicate}
use lib.Seq.{get_or-set_same, get_or-set_other, get_or-append_seam}
use lib.Dec.{ltb, eqb}
use lib.Ieee.{Float}
use borrow.Author.Tests.{ltb-true, ltb-false, lt-ltb, le-ltb, eqb-true, eq-eqb}
use Rattle.square.specs.Index.{count, loop}
use Rattle.square.specs.Square.{zero_at}
use Rattle.square.proofs.Count.{count_mono, count_more, count_none, count_room}
use Rattle.square.proofs.Index.{last_or_before, eq-or-not, loop_stable}
use Rattle.square.proofs.Truth.{and_both, and_left, and_right, and_not_right}
use Rattle.paths.specs.Inner.{Good, met}
use Rattle.paths.specs.Path.{Bfs, begun, bfs_of, meet, meet_if, pop, pop_if, pops, scan, take_in}
use Rattle.paths.specs.State.{Tables, paired}

module _ (c : List Float) (n : ℕ) (rows cols : List ℕ) (start : ℕ) where
  -- b' comes after b
  pub record After (b b' : Bfs) : Type 0 where
    pub longer : length b.queue ≤ length b'.queue
    pub prefix : (t : ℕ) → t < length b.queue → get_or b'.queue t 0 ≡ get_or b.queue t 0
    pub still_met : (j : ℕ) → met b.from j ≡ true → met b'.from j ≡ true
    pub hit_stays : b'.hit ≡ 64 → b.hit ≡ 64

  pub after_none : (b : Bfs) → After b b
  after_none b = record { longer = omega arith; prefix = λ t h. refl; still_met = λ j h. h; hit_stays = λ h. h }

  pub after_more : (a b d : Bfs) → After a b → After b d → After a d
  after_more a b d p q = record {
    longer = omega (arith, p.longer, q.longer);
    prefix = λ t h. q.prefix t (omega (arith, p.longer)) ∙ p.prefix t h;
    still_met = λ j h. q.still_met j (p.still_met j h);
    hit_stays = λ h. p.hit_stays (q.hit_stays h);
  }

  module _ (T : Tables n rows cols) (start_in : start < n) (start_free : paired n rows start ≡ false) where
    -- ---- a met column of which a place stays below 64
    met-set_same : (f : List ℕ) (j h : ℕ) → length f ≡ 64 → j < n → h < 64 → met (set f j h) j ≡ true
    met-set_same f j h e hj lt = lt-ltb (get_or (set f j h) j 0) 64 (rw (get_or-set_same f j h 0 (omega (arith, T.n64))) lt)

    met-set_other : (f : List ℕ) (j h j' : ℕ) → (j' ≡ j → ⊥) → met (set f j h) j' ≡ met f j'
    met-set_other f j h j' ne = rw (get_or-set_other f j j' h 0 ne)

    not_met : (f : List ℕ) (j : ℕ) → get_or f j 0 ≡ 64 → met f j ≡ false
    not_met f j e = le-ltb (get_or f j 0) 64 (omega arith)

    met_keeps : (f : List ℕ) (j h : ℕ) → length f ≡ 64 → j < n → h < 64 → (j' : ℕ) → met f j' ≡ true → met (set f j h) j' ≡ true
    met_keeps f j h e hj lt j' m = ⊎_elim
        (λ p. subst (λ (x : ℕ). met (set f j h) x ≡ true) (sym p) (met-set_same f j h e hj lt))
        (λ ne. met-set_other f j h j' ne ∙ m)
        (eq-or-not j' j)

    -- the queue is short, since its rows but the first are partners of columns, and a row is free
    fits_n : (f q : List ℕ) → length q ≡ suc (count n (met f)) → ((j : ℕ) → j < n → met f j ≡ true → get_or cols j 0 < n) → length q ≤ n
    fits_n f q e h = omega (
      arith,
      e,
      T.same,
      count_room n (paired n rows) start start_in start_free,
      count_mono n (met f) (paired n cols) (λ j hj m. lt-ltb (get_or cols j 0) n (h j hj m)),
    )

    module _ (b : Bfs) (g : Good n rows cols start b) (h j : ℕ) (hj : j < n) (hh : h < length b.queue) (none : b.hit ≡ 64) (unmet : get_or b.from j 0 ≡ 64) where
      h64 : h < 64
      h64 = omega (arith, g.short, T.n64)

      place_same : get_or (set b.from j h) j 0 ≡ h
      place_same = get_or-set_same b.from j h 0 (omega (arith, T.n64, g.len))

      place_other : (j' : ℕ) → (j' ≡ j → ⊥) → get_or (set b.from j h) j' 0 ≡ get_or b.from j' 0
      place_other j' ne = get_or-set_other b.from j j' h 0 ne

      -- the column by which a place of the queue was reached is not j
      via_not : (t : ℕ) → 0 < t → t < length b.queue → get_or rows (get_or b.queue t 0) 0 ≡ j → ⊥
      via_not t p l e = let v = g.via_from t p l in omega (arith, subst (λ (x : ℕ). get_or b.from x 0 < t) e v, unmet, g.short, T.n64)

      from_or' : (L : ℕ) → length b.queue ≤ L → (j' : ℕ) → j' < n → (get_or (set b.from j h) j' 0 ≡ 64) ⊎ (get_or (set b.from j h) j' 0 < L)
      from_or' L le j' hj' = ⊎_elim
          (λ p. inr (subst (λ (x : ℕ). get_or (set b.from j h) x 0 < L) (sym p) (rw place_same (omega arith))))
          (λ ne. ⊎_elim (λ e. inl (place_other j' ne ∙ e)) (λ (l : get_or b.from j' 0 < length b.queue). inr (rw (place_other j' ne) (omega arith))) (g.from_or j' hj'))
          (eq-or-not j' j)

      via_from' : (t : ℕ) → 0 < t → t < length b.queue → get_or (set b.from j h) (get_or rows (get_or b.queue t 0) 0) 0 < t
      via_from' t p l = rw (place_other (get_or rows (get_or b.queue t 0) 0) (via_not t p l)) (g.via_from t p l)

      met_more : count n (met (set b.from j h)) ≡ suc (count n (met b.from))
      met_more = count_more n (met b.from) (met (set b.from j h)) j hj (not_met b.from j unmet) (met-set_same b.from j h g.len hj h64)
          (λ k _ ne. sym (met-set_other b.from j h k ne))

      -- a free column ends it
      free_good : n ≤ get_or cols j 0 → Good n rows cols start (record { from = set b.from j h; queue = b.queue; hit = j })
      free_good free = record {
        len = length-set b.from j h ∙ g.len;
        some = g.some;
        short = g.short;
        first = g.first;
        inside = g.inside;
        from_or = from_or' (length b.queue) (omega arith);
        via_in = g.via_in;
        via_from = via_from';
        back = λ j' hj' m l. ⊎_elim
            (λ p. absurd (omega (arith, subst (λ (x : ℕ). get_or cols x 0 < n) p l)))
            (λ ne. g.back j' hj' (sym (met-set_other b.from j h j' ne) ∙ m) l)
            (eq-or-not j' j);
        size = λ e. absurd (omega (arith, T.n64));
        met_paired = λ e. absurd (omega (arith, T.n64));
        distinct = g.distinct;
        hit_or = inr (hj, rw place_same hh, free);
      }

      -- a paired column queues its row
      module _ (pair : get_or cols j 0 < n) where
        abbrev q' : List ℕ
        q' = b.queue ++ (get_or cols j 0 ∷ [])

        long : length q' ≡ suc (length b.queue)
        long = omega (arith, length-append b.queue (get_or cols j 0 ∷ []))

        old_place : (t : ℕ) → t < length b.queue → get_or q' t 0 ≡ get_or b.queue t 0
        old_place t l = get_or-append b.queue (get_or cols j 0 ∷ []) 0 t l

        new_place : get_or q' (length b.queue) 0 ≡ get_or cols j 0
        new_place = get_or-append_seam b.queue (get_or cols j 0) [] 0

        either : (P : ℕ → ℕ → Type 0) → ((t : ℕ) → t < length b.queue → P t (get_or b.queue t 0)) → P (length b.queue) (get_or cols j 0)
            → (t : ℕ) → t < length q' → P t (get_or q' t 0)
        either P old new t l = ⊎_elim
            (λ e. subst (λ (x : ℕ). P x (get_or q' x 0)) (sym e) (subst (P (length b.queue)) (sym new_place) new))
            (λ l'. subst (P t) (sym (old_place t l')) (old t l'))
            (last_or_before (omega (arith, long)))

        not_queued : (t : ℕ) → t < length b.queue → get_or b.queue t 0 ≡ get_or cols j 0 → ⊥
        not_queued zero l e = absurd (omega (
          arith,
          ltb-false (get_or rows start 0) n start_free,
          subst (λ (x : ℕ). get_or rows x 0 ≡ j) (sym e ∙ g.first) (T.col_back j hj pair),
        ))
        not_queued (suc t) l e = via_not (suc t) (omega arith) l (ap (λ (x : ℕ). get_or rows x 0) e ∙ T.col_back j hj pair)

        distinct' : (t t' : ℕ) → t < length q' → t' < length q' → get_or q' t 0 ≡ get_or q' t' 0 → t ≡ t'
        distinct' t t' l l' = either (λ t v. v ≡ get_or q' t' 0 → t ≡ t')
            (λ t l1. either (λ t' v'. get_or b.queue t 0 ≡ v' → t ≡ t') (λ t' l2 e. g.distinct t t' l1 l2 e) (λ e. absurd (not_queued t l1 e)) t' l')
            (either (λ t' v'. get_or cols j 0 ≡ v' → length b.queue ≡ t') (λ t' l2 e. absurd (not_queued t' l2 (sym e))) (λ e. refl) t' l')
            t l

        met_paired' : (j' : ℕ) → j' < n → met (set b.from j h) j' ≡ true → get_or cols j' 0 < n
        met_paired' j' hj' m = ⊎_elim
            (λ p. subst (λ (x : ℕ). get_or cols x 0 < n) (sym p) pair)
            (λ ne. g.met_paired none j' hj' (sym (met-set_other b.from j h j' ne) ∙ m))
            (eq-or-not j' j)

        size' : length q' ≡ suc (count n (met (set b.from j h)))
        size' = omega (arith, long, g.size none, met_more)

        pair_good : Good n rows cols start (record { from = set b.from j h; queue = q'; hit = b.hit })
        pair_good = record {
          len = length-set b.from j h ∙ g.len;
          some = omega (arith, long);
          short = fits_n (set b.from j h) q' size' met_paired';
          first = old_place 0 g.some ∙ g.first;
          inside = either (λ t v. v < n) g.inside pair;
          from_or = from_or' (length q') (omega (arith, long));
          via_in = λ t p l. either (λ t v. 0 < t → get_or rows v 0 < n) (λ t l p. g.via_in t p l) (λ _. rw (T.col_back j hj pair) hj) t l p;
          via_from = λ t p l. either (λ t v. 0 < t → get_or (set b.from j h) (get_or rows v 0) 0 < t) (λ t l p. via_from' t p l)
              (λ _. rw (T.col_back j hj pair, place_same) hh) t l p;
          back = λ j' hj' m l. ⊎_elim
              (λ p. (length b.queue, omega (arith, long), new_place ∙ ap (λ (x : ℕ). get_or cols x 0) (sym p)))
              (λ ne. let w = g.back j' hj' (sym (met-set_other b.from j h j' ne) ∙ m) l in (w.0, omega (arith, long, w.1), old_place w.0 w.1 ∙ w.2))
              (eq-or-not j' j);
          size = λ _. size';
          met_paired = λ _. met_paired';
          distinct = distinct';
          hit_or = inl none;
        }

        pair_after : After b (record { from = set b.from j h; queue = q'; hit = b.hit })
        pair_after = record {
          longer = omega (arith, long);
          prefix = old_place;
          still_met = met_keeps b.from j h g.len hj h64;
          hit_stays = λ e. e;
        }

      free_after : Bfs → After b (record { from = set b.from j h; queue = b.queue; hit = j })
      free_after _ = record {
        longer = omega arith;
        prefix = λ t l. refl;
        still_met = met_keeps b.from j h g.len hj h64;
        hit_stays = λ e. none;
      }

      met_here : met (set b.from j h) j ≡ true
      met_here = met-set_same b.from j h g.len hj h64

    -- one column: all stays good, and where no free column is met, a zero's column is met
    pub record Step (row j : ℕ) (b b' : Bfs) : Type 0 where
      pub good : Good n rows cols start b'
      pub after : After b b'
      pub zero_met : b'.hit ≡ 64 → zero_at c row j ≡ true → met b'.from j ≡ true

    take_step : (b : Bfs) (g : Good n rows cols start b) (h row j : ℕ) (hj : j < n) (hh : h < length b.queue) (none : b.hit ≡ 64) (unmet : get_or b.from j 0 ≡ 64)
        (x : Bool) → paired n cols j ≡ x → Step row j b (take_in x h j (get_or cols j 0) b)
    unfolding take_in
    take_step b g h row j hj hh none unmet true e =
        let l = ltb-true (get_or cols j 0) n e in
        record { good = pair_good b g h j hj hh none unmet l; after = pair_after b g h j hj hh none unmet l; zero_met = λ _ _. met_here b g h j hj hh none unmet }
    take_step b g h row j hj hh none unmet false e =
        record { good = free_good b g h j hj hh none unmet (ltb-false (get_or cols j 0) n e); after = free_after b g h j hj hh none unmet b; zero_met = λ _ _. met_here b g h j hj hh none unmet }

    meet_step : (b : Bfs) (g : Good n rows cols start b) (h row j : ℕ) (hj : j < n) (hh : h < length b.queue)
        (x : Bool) → (eqb b.hit 64 && (eqb (get_or b.from j 0) 64 && zero_at c row j)) ≡ x → Step row j b (meet_if x n cols h j b)
    unfolding meet_if
    meet_step b g h row j hj hh true e =
        let r = and_right (eqb b.hit 64) (eqb (get_or b.from j 0) 64 && zero_at c row j) e in
        take_step b g h row j hj hh (eqb-true b.hit 64 (and_left (eqb b.hit 64) (eqb (get_or b.from j 0) 64 && zero_at c row j) e))
        (eqb-true (get_or b.from j 0) 64 (and_left (eqb (get_or b.from j 0) 64) (zero_at c row j) r)) (paired n cols j) refl
    meet_step b g h row j hj hh false e = record {
      good = g;
      after = after_none b;
      zero_met = λ none z. ⊎_elim
          (λ (u : get_or b.from j 0 ≡ 64). absurd (true≢false (sym (and_both (eq-eqb b.hit 64 none) (and_both (eq-eqb (get_or b.from j 0) 64 u) z)) ∙ e)))
          (λ (l : get_or b.from j 0 < length b.queue). lt-ltb (get_or b.from j 0) 64 (omega (arith, g.short, T.n64)))
          (g.from_or j hj);
    }

    pub meet_is : (b : Bfs) (g : Good n rows cols start b) (h row j : ℕ) → j < n → h < length b.queue → Step row j b (meet c n cols h row j b)
    unfolding meet
    meet_is b g h row j hj hh = meet_step b g h row j hj hh (eqb b.hit 64 && (eqb (get_or b.from j 0) 64 && zero_at c row j)) refl

    -- the first k columns of a row
    pub record Row (row k : ℕ) (b b' : Bfs) : Type 0 where
      pub good : Good n rows cols start b'
      pub after : After b b'
      pub zero_met : b'.hit ≡ 64 → (j : ℕ) → j < k → zero_at c row j ≡ true → met b'.from j ≡ true

    row_more : (row k : ℕ) (b b' b'' : Bfs) → Row row k b b' → Step row k b' b'' → Row row (suc k) b b''
    row_more row k b b' b'' r s = record {
      good = s.good;
      after = after_more b b' b'' r.after s.after;
      zero_met = λ none j lt z. ⊎_elim
          (λ (e : j ≡ k). subst (λ (x : ℕ). met b''.from x ≡ true) (sym e) (s.zero_met none (subst (λ (x : ℕ). zero_at c row x ≡ true) e z)))
          (λ (l : j < k). s.after.still_met j (r.zero_met (s.after.hit_stays none) j l z))
          (last_or_before lt);
    }

    pub scan_is : (b : Bfs) (g : Good n rows cols start b) (h row k : ℕ) → k ≤ n → h < length b.queue → Row row k b (scan c n cols h row k b)
    unfolding scan
    scan_is b g h row zero hk hh = record { good = g; after = after_none b; zero_met = λ _ j lt z. absurd (not-suc-le-zero lt) }
    scan_is b g h row (suc k) hk hh =
        let r = scan_is b g h row k (omega arith) hh in
        row_more row k b (loop k (λ j. meet c n cols h row j) b) _ r
        (meet_is (loop k (λ j. meet c n cols h row j) b) r.good h row k (omega arith) (omega (arith, r.after.longer)))

    -- the first k places of the queue
    pub record Popped (k : ℕ) (b : Bfs) : Type 0 where
      pub good : Good n rows cols start b
      pub rows_closed : b.hit ≡ 64 → (t : ℕ) → t < k → t < length b.queue → (j : ℕ) → j < n → zero_at c (get_or b.queue t 0) j ≡ true → met b.from j ≡ true

    pop_more : (k : ℕ) (b b' : Bfs) → Popped k b → k < length b.queue → Row (get_or b.queue k 0) n b b' → Popped (suc k) b'
    pop_more k b b' p lk r = record {
      good = r.good;
      rows_closed = λ none t lt l j hj z. ⊎_elim
          (λ (e : t ≡ k). r.zero_met none j hj
          (subst (λ (x : ℕ). zero_at c x j ≡ true) (r.after.prefix k lk) (subst (λ (x : ℕ). zero_at c (get_or b'.queue x 0) j ≡ true) e z)))
          (λ (l' : t < k).
          let lb : t < length b.queue = omega arith in
          r.after.still_met j (p.rows_closed (r.after.hit_stays none) t l' lb j hj (subst (λ (x : ℕ). zero_at c x j ≡ true) (r.after.prefix t lb) z)))
          (last_or_before lt);
    }

    pop_step : (k : ℕ) (b : Bfs) → Popped k b → (x : Bool) → (eqb b.hit 64 && ltb k (length b.queue)) ≡ x → Popped (suc k) (pop_if x c n cols k b)
    unfolding pop_if
    pop_step k b p true e =
        let lk = ltb-true k (length b.queue) (and_right (eqb b.hit 64) (ltb k (length b.queue)) e) in
        pop_more k b _ p lk (scan_is b p.good k (get_or b.queue k 0) n (omega arith) lk)
    pop_step k b p false e = record {
      good = p.good;
      rows_closed = λ none t lt l j hj z. ⊎_elim
          (λ (q : t ≡ k). absurd (true≢false (sym (and_both (eq-eqb b.hit 64 none) (lt-ltb k (length b.queue) (omega arith))) ∙ e)))
          (λ (l' : t < k). p.rows_closed none t l' l j hj z)
          (last_or_before lt);
    }

    begun_good : Good n rows cols start (begun start)
    begun_good = record {
      len = length-replicate {A = ℕ} 64 64;
      some = omega arith;
      short = omega arith;
      first = refl;
      inside = λ t l. one t l start_in;
      from_or = λ j hj. inl (get_or-replicate {A = ℕ} 64 j 64 0 (omega (arith, T.n64)));
      via_in = λ t p l. absurd (omega arith);
      via_from = λ t p l. absurd (omega arith);
      back = λ j hj m l. absurd (true≢false (sym m ∙ none_met j hj));
      size = λ _. ap suc (sym (count_none n (met (replicate 64 64)) none_met));
      met_paired = λ _ j hj m. absurd (true≢false (sym m ∙ none_met j hj));
      distinct = λ t t' l l' _. omega arith;
      hit_or = inl refl;
    }
      where
        one : (t : ℕ) → t < 1 → start < n → get_or (start ∷ []) t 0 < n
        one zero l s = s
        one (suc t) l s = absurd (omega arith)

        none_met : (j : ℕ) → j < n → met (replicate 64 64) j ≡ false
        none_met j hj = not_met (replicate 64 64) j (get_or-replicate {A = ℕ} 64 j 64 0 (omega (arith, T.n64)))

    pub pops_is : (k : ℕ) → Popped k (pops c n cols start k)
    unfolding pops
    pops_is zero = record { good = begun_good; rows_closed = λ _ t lt. absurd (not-suc-le-zero lt) }
    pops_is (suc k) =
        let b : Bfs = loop k (pop c n cols) (begun start) in
        pop_step k b (pops_is k) (eqb b.hit 64 && ltb k (length b.queue)) refl

    pub bfs_good : Good n rows cols start (bfs_of c n cols start)
    unfolding bfs_of
    bfs_good = (pops_is n).good

    -- where no free column was met, every row of the queue is closed
    pub bfs_closed : (bfs_of c n cols start).hit ≡ 64 → (t : ℕ) → t < length (bfs_of c n cols start).queue → (j : ℕ) → j < n
        → zero_at c (get_or (bfs_of c n cols start).queue t 0) j ≡ true → met (bfs_of c n cols start).from j ≡ true
    unfolding bfs_of
    bfs_closed none t l j hj z = let p = pops_is n in p.rows_closed none t (omega (arith, p.good.short)) l j hj z

    -- n places are all there can ever be: whatever number of places is gone through, it comes to no more
    pub whole_queue : (k : ℕ) → n ≤ k → pops c n cols start k ≡ bfs_of c n cols start
    unfolding bfs_of pops pop pop_if
    whole_queue k le = loop_stable (pop c n cols) (begun start) n (λ i h. rw (past i h)) k le
      where
        past : (i : ℕ) → n ≤ i → (eqb (pops c n cols start n).hit 64 && ltb i (length (pops c n cols start n).queue)) ≡ false
        past i h = and_not_right (eqb (pops c n cols start n).hit 64) (ltb i (length (pops c n cols start n).queue))
            (le-ltb i (length (pops c n cols start n).queue) (omega (arith, (pops_is n).good.short)))
