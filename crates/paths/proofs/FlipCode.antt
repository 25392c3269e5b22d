-- The flip's loop: its invariant and what a turn does. Assumes nothing.
use Prim.Native.Nat.{ℕ, ◌<◌}
use mathlib.Core.Path.{◌≡◌, sym, subst}
use mathlib.Core.List.{List}
use native.Mathlib.Omega.{arith}
use lib.ListN.{length, get_or, set, take}
use lib.Seq.{get_or-take, length-take-le}
use Rattle.paths.specs.Inner.{Trail}
use Rattle.paths.specs.Path.{Bfs, Flips, last, next}
use Rattle.paths.proofs.FlipKeeps.{Hang, hang_next, hang_start, prev_in, prev_less}

pub record FlipInv (from queue : List ℕ) (hit : ℕ) (rows₀ cols₀ rows cols : List ℕ) (col h : ℕ) : Type 0 where
  pub trail : Trail rows₀ cols₀ from queue hit
  pub hang : Hang trail.n rows₀ cols₀ trail.start (record { from = from; queue = take trail.tail queue; hit = hit }) trail.good trail.tables trail.start_free h col rows cols
  pub so_far : (R C : List ℕ) → Flips from queue h col rows cols R C → Flips from queue (get_or from hit 0) hit rows₀ cols₀ R C

pub begin : (from queue : List ℕ) (hit : ℕ) (rows cols : List ℕ) → Trail rows cols from queue hit → FlipInv from queue hit rows cols rows cols hit (get_or from hit 0)
begin from queue hit rows cols t = record {
  trail = t;
  hang = hang_start t.n rows cols t.start (record { from = from; queue = take t.tail queue; hit = hit }) t.good t.tables t.start_free t.hit_in;
  so_far = λ R C f. f;
}

module _ (from queue : List ℕ) (hit : ℕ) (rows₀ cols₀ rows cols : List ℕ) (col h : ℕ) (v : FlipInv from queue hit rows₀ cols₀ rows cols col h) where
  abbrev b : Bfs
  b = record { from = from; queue = take v.trail.tail queue; hit = hit }

  tail_len : length b.queue ≡ v.trail.tail
  tail_len = length-take-le v.trail.tail queue v.trail.fits

  h_tail : h < v.trail.tail
  h_tail = omega (arith, v.hang.h_in, tail_len)

  place : get_or b.queue h 0 ≡ get_or queue h 0
  place = get_or-take v.trail.tail queue h 0 h_tail

  pub col_64 : col < 64
  col_64 = omega (arith, v.hang.j_in, v.trail.tables.n64)

  pub h_64 : h < 64
  h_64 = omega (arith, h_tail, v.trail.fits, v.trail.len)

  pub row_64 : get_or queue h 0 < 64
  row_64 = omega (arith, place, v.trail.good.inside h v.hang.h_in, v.trail.tables.n64)

  pub first_64 : h ≡ 0 → get_or queue 0 0 < 64
  first_64 e = subst (λ (x : ℕ). get_or queue x 0 < 64) e row_64

  module _ (pos : 0 < h) where
    pub prev_64 : get_or rows (get_or queue h 0) 0 < 64
    prev_64 = omega (
      arith,
      v.trail.tables.n64,
      subst (λ (r : ℕ). get_or rows r 0 < v.trail.n) place (prev_in v.trail.n rows₀ cols₀ v.trail.start b v.trail.good v.trail.tables v.trail.start_free h col rows cols v.hang pos),
    )

    pub less : get_or from (get_or rows (get_or queue h 0) 0) 0 < h
    less = subst (λ (r : ℕ). get_or from (get_or rows r 0) 0 < h) place
        (prev_less v.trail.n rows₀ cols₀ v.trail.start b v.trail.good v.trail.tables v.trail.start_free h col rows cols v.hang pos)

    pub turn : FlipInv from queue hit rows₀ cols₀ (set rows (get_or queue h 0) col) (set cols col (get_or queue h 0)) (get_or rows (get_or queue h 0) 0) (get_or from (get_or rows (get_or queue h 0) 0) 0)
    turn = record {
      trail = v.trail;
      hang = subst (λ (r : ℕ). Hang v.trail.n rows₀ cols₀ v.trail.start b v.trail.good v.trail.tables v.trail.start_free
          (get_or from (get_or rows r 0) 0) (get_or rows r 0) (set rows r col) (set cols col r)) place
          (hang_next v.trail.n rows₀ cols₀ v.trail.start b v.trail.good v.trail.tables v.trail.start_free h col rows cols v.hang pos);
      so_far = λ R C f. v.so_far R C (next pos f);
    }

  pub finish : h ≡ 0 → Flips from queue (get_or from hit 0) hit rows₀ cols₀ (set rows (get_or queue 0 0) col) (set cols col (get_or queue 0 0))
  finish e = v.so_far (set rows (get_or queue 0 0) col) (set cols col (get_or queue 0 0))
      (subst (λ (x : ℕ). Flips from queue x col rows cols (set rows (get_or queue 0 0) col) (set cols col (get_or queue 0 0))) (sym e) last)
