-- Step E from the first free row that has a path: what the queue's code hands on to the flip. Assumes nothing.
use Prim.Native.Nat.{ℕ, ◌<◌, ◌≤◌}
use mathlib.Core.Path.{◌≡◌, refl, sym, subst}
use mathlib.Core.List.{List}
use native.Mathlib.Omega.{arith}
use lib.ListN.{length, get_or, take}
use lib.Seq.{get_or-take, length-take-le}
use lib.Ieee.{Float}
use borrow.Author.Tests.{ltb-false}
use Rattle.paths.specs.Inner.{Good, Holds, Leads, Trail}
use Rattle.paths.specs.Path.{Bfs, Flips, Path, bfs_of}
use Rattle.paths.specs.State.{state}
use Rattle.paths.proofs.FlipKeeps.{flips_as, hang_start}
use Rattle.paths.proofs.Queue.{bfs_good}

module _ (c : List Float) (n : ℕ) (rows cols : List ℕ) (start : ℕ) (L : Leads n c rows cols start) where
  free : n ≤ get_or rows start 0
  free = ltb-false (get_or rows start 0) n L.start_free

  good : Good n rows cols start (bfs_of c n cols start)
  good = bfs_good c n rows cols start L.tables L.start_in L.start_free

  module _ (from queue : List ℕ) (hit tail : ℕ) (e : Holds (bfs_of c n cols start) from queue hit tail) where
    abbrev held : Bfs
    held = record { from = from; queue = take tail queue; hit = hit }

    held_is : held ≡ bfs_of c n cols start
    held_is = λ i. record { from = e.from_is i; queue = e.queue_is i; hit = e.hit_is i }

    held_good : Good n rows cols start held
    held_good = subst (Good n rows cols start) (sym held_is) good

    tail_fits : tail ≤ length queue
    tail_fits = omega (arith, e.tail_is, e.len, good.short, L.tables.n64)

    hit_below : hit < n
    hit_below = omega (arith, e.hit_is, L.hit_in)

    pub trail : Trail rows cols from queue hit
    trail = record {
      n = n;
      tail = tail;
      start = start;
      start_free = free;
      fits = tail_fits;
      len = e.len;
      tables = L.tables;
      good = held_good;
      hit_in = hit_below;
    }

    same_place : (t : ℕ) → t < length held.queue → get_or queue t 0 ≡ get_or held.queue t 0
    same_place t l = sym (get_or-take tail queue t 0 (omega (arith, length-take-le tail queue tail_fits)))

    abbrev FlippedBy : Bfs → List ℕ → List ℕ → Type 0
    FlippedBy b R C = Flips b.from b.queue (get_or b.from b.hit 0) b.hit rows cols R C

    pub path_made : (R C : List ℕ) → Flips from queue (get_or from hit 0) hit rows cols R C → Path n (state c rows cols) (state c R C)
    path_made R C f = record {
      row = start;
      row_in = L.start_in;
      row_free = L.start_free;
      first = L.first;
      hit_in = L.hit_in;
      same = refl;
      flips = subst (λ (b : Bfs). FlippedBy b R C) held_is
          (flips_as n rows cols start held held_good L.tables free queue same_place f (hang_start n rows cols start held held_good L.tables free hit_below));
    }
