-- What a caller reads off a pairing: its pairs, how many rows and columns are left, and that each is named once. Assumes nothing.
use mathlib.Core.Path.{◌≡◌, sym, subst}
use mathlib.Core.List.{List, ◌++◌}
use Prim.Native.Nat.{ℕ, ◌*◌, ◌<◌, ◌≤◌, ◌/◌, ◌%◌, ◌-◌}
use native.Mathlib.Omega.{arith}
use lib.ListN.{length, get_or, take, replicate, length-append, length-map, length-replicate, get_or-append}
use lib.Seq.{take-append_seam, length-take-le, get_or-take}
use Rattle.greedy.specs.declared.Pairing.{Pairing}
use Rattle.square.specs.Index.{Once}
use Rattle.sorting.specs.Order.{Each}
use Rattle.sorting.proofs.Permutes.{each_at}
use Rattle.greedy.specs.Greedy.{taken_of, rows_of, cols_of, left_of, pairing_of, Fitting}
use Rattle.greedy.proofs.Marks.{in_all, each_once}
use Rattle.greedy.proofs.Taking.{taken_inside, rows_fresh, cols_fresh, rows_inside, cols_inside}

-- the used places are the pairs taken
pub pairs_are : (w : ℕ) (l : List ℕ) → take (pairing_of w l).used (pairing_of w l).pairs ≡ taken_of w l
unfolding pairing_of
pairs_are w l = take-append_seam (taken_of w l) (replicate (64 - length (taken_of w l)) 0)

module _ (n w : ℕ) (l : List ℕ) (n64 : n ≤ 64) (w64 : w ≤ 64) (inside : Each (λ k. k < n * w) l) where
  pub fitting : Fitting n w (pairing_of w l)
  unfolding pairing_of
  fitting =
      let a = in_all n (rows_of w (taken_of w l)) (rows_fresh n w l n64 w64 inside) (rows_inside n w l n64 w64 inside) in
      let b = in_all w (cols_of w (taken_of w l)) (cols_fresh n w l n64 w64 inside) (cols_inside n w l n64 w64 inside) in
      let c = length-map (taken_of w l) (λ k. k / w) in
      let d = length-map (taken_of w l) (λ k. k % w) in
      record {
        few = omega arith;
        places = omega (arith, length-append (taken_of w l) (replicate (64 - length (taken_of w l)) 0), length-replicate {A = ℕ} (64 - length (taken_of w l)) 0);
        inside = λ i h. subst (λ (k : ℕ). k < n * w) (sym (get_or-append (taken_of w l) (replicate (64 - length (taken_of w l)) 0) 0 i h))
            (each_at (λ k. k < n * w) (taken_of w l) i (taken_inside n w l n64 w64 inside) h);
        rows = omega arith;
        cols = omega arith;
      }

  -- EVERY ROW ONCE, EVERY COLUMN ONCE: in a pair that is taken, or among those left
  pub rows_once : Once n (rows_of w (taken_of w l) ++ left_of n (pairing_of w l).rows)
  unfolding pairing_of
  rows_once = each_once n (rows_of w (taken_of w l)) (rows_fresh n w l n64 w64 inside) (rows_inside n w l n64 w64 inside)

  pub cols_once : Once w (cols_of w (taken_of w l) ++ left_of w (pairing_of w l).cols)
  unfolding pairing_of
  cols_once = each_once w (cols_of w (taken_of w l)) (cols_fresh n w l n64 w64 inside) (cols_inside n w l n64 w64 inside)

-- ---- the pairs of a pairing that fits, lent as a run
module _ (n w : ℕ) (p : Pairing) (f : Fitting n w p) where
  pub pairs_fit : p.used ≤ length p.pairs
  pairs_fit = let a = f.few in let b = f.places in omega arith

  pub pairs_long : p.used ≡ length (take p.used p.pairs)
  pairs_long = sym (length-take-le p.used p.pairs pairs_fit)

  pub pairs_inside : (i : ℕ) → i < length (take p.used p.pairs) → get_or (take p.used p.pairs) i 0 < n * w
  pairs_inside i h =
      let a = pairs_long in
      let k : i < p.used = omega arith in
      rw (get_or-take p.used p.pairs i 0 k) (f.inside i k)
