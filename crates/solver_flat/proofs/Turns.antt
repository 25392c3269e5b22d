-- What one turn of each listing loop does to the run, and the whole answer in it. Assumes nothing.
use mathlib.Core.Path.{◌≡◌, refl, sym, ap, ◌∙◌, subst}
use mathlib.Core.Bool.{Bool, true, false}
use mathlib.Core.List.{List, [], ◌∷◌, ◌++◌}
use Prim.Native.Nat.{ℕ, ◌+◌, ◌≤◌, ◌<◌}
use native.Mathlib.Omega.{arith}
use lib.ListN.{length, length-append, length-map, length-replicate, length-set, get_or, replicate, set, take, drop}
use lib.Ieee.{Float}
use lib.Seq.{length-take-le, take-set-lt, drop-set-lt, set-append_left}
use Rattle.square.specs.Index.{Picked}
use borrow.Rule.Slice.PartMut.{put_mid}
use Rattle.optimize.specs.declared.Assignment.{Assignment}
use Rattle.optimize.specs.declared.AssignmentResult.{AssignmentResult}
use Rattle.optimize.specs.Answer.{Solved, keeps, pair_of, no_pair, rows_alone}
use Rattle.optimize.proofs.Listing as listing
use Rattle.std.proofs.lemmas.List.{map-set}
use Rattle.solver_flat.specs.Flat.{rows_of, cols_of, flat_after}
use Rattle.solver_flat.specs.Inner.{Clear, Pasted, PickedAt, PairsAt, Found}
use Rattle.solver_flat.proofs.Pasting.{pasted_part, pasted_set, pasted_clear, run_is, clear_at, still_clear}

-- ---- the numbers that have no mark
pub picked_at : (before : List ℕ) (at n : ℕ) (marks : List Bool) (used : ℕ) (places : List ℕ) (k : ℕ) → at + 64 ≤ length before → k ≡ 64 → length places ≡ 64
    → Picked false marks n places used → PickedAt before at marks n used (put_mid at k before places)
picked_at before at n marks used places k room e full p =
    record { places = places; full = full; picked = p; pasted = pasted_part before at k places places 64 room refl (sym e) (sym full) }

-- ---- a store before the places of a list that was written
module _ {d : List ℕ} {at : ℕ} {s : List ℕ} {n : ℕ} {o : List ℕ} (h : Pasted d at s n o) (p v : ℕ) (low : p < at) (fits : at ≤ length d) where
  pasted_over : Pasted (set d p v) at s n (set o p v)
  pasted_over =
      let front = length-take-le at d fits in
      record {
        after_is = ap (λ (l : List ℕ). set l p v) h.after_is
            ∙ set-append_left (take at d ++ take n s) (drop (at + n) d) p v (omega (arith, length-append (take at d) (take n s)))
            ∙ ap (λ (l : List ℕ). l ++ drop (at + n) d) (set-append_left (take at d) (take n s) p v (omega arith) ∙ ap (λ (l : List ℕ). l ++ take n s) (sym (take-set-lt at d p v low)))
            ∙ ap (λ (l : List ℕ). (take at (set d p v) ++ take n s) ++ l) (sym (drop-set-lt (at + n) d p v (omega arith)));
        same_len = length-set o p v ∙ h.same_len ∙ sym (length-set d p v);
      }

pasted_same : {d : List ℕ} {at : ℕ} {s s' : List ℕ} {n : ℕ} {o : List ℕ} → s ≡ s' → Pasted d at s n o → Pasted d at s' n o
pasted_same {d} {at} {s} {s'} {n} {o} e p = subst (λ (l : List ℕ). Pasted d at l n o) e p

-- ---- the pairs
module _ {m : List Float} {w : ℕ} {limit : Float} {rows : List ℕ} {before : List ℕ} where
  pub pairs_at_none : (R C : List Bool) → R ≡ replicate 64 false → C ≡ replicate 64 false → Clear 5 before → Clear 69 before → PairsAt m w limit rows 0 0 R C before before
  pairs_at_none R C p q a b = record {
    pairs = replicate 64 no_pair;
    full = length-replicate 64 no_pair;
    listed = listing.listed_none m w limit rows R C p q;
    between = before;
    rows_at = pasted_clear before 5 (rows_of (replicate 64 no_pair)) refl a;
    cols_at = pasted_clear before 69 (cols_of (replicate 64 no_pair)) refl b;
  }

  module _ {k used : ℕ} {R C : List Bool} {out : List ℕ} (v : PairsAt m w limit rows k used R C before out) where
    pub few_pairs : used ≤ k
    few_pairs = listing.few m w limit rows k v.pairs used R C v.listed

    pub pairs_at_yes : 133 ≤ length before → w ≤ 64 → k < 64 → keeps m w limit rows k ≡ true
        → PairsAt m w limit rows (k + 1) (used + 1) (set R k true) (set C (get_or rows k 0) true) before (set (set out (5 + used) k) (69 + used) (get_or rows k 0))
    pairs_at_yes room w64 k64 e =
        let few = few_pairs in
        let long = v.rows_at.same_len in
        let long' = length-set v.between (5 + used) k in
        record {
          pairs = set v.pairs used (pair_of rows k);
          full = length-set v.pairs used (pair_of rows k) ∙ v.full;
          listed = listing.listed_yes m w limit rows k v.pairs used R C v.listed w64 k64 e;
          between = set v.between (5 + used) k;
          rows_at = pasted_same (sym (map-set (λ (a : Assignment). a.row_idx) v.pairs used (pair_of rows k)))
              (pasted_set v.rows_at (omega arith) (length-map v.pairs _ ∙ v.full) used k (omega arith));
          cols_at = pasted_same (sym (map-set (λ (a : Assignment). a.col_idx) v.pairs used (pair_of rows k)))
              (pasted_set (pasted_over v.cols_at (5 + used) k (omega arith) (omega arith)) (omega arith) (length-map v.pairs _ ∙ v.full) used (get_or rows k 0) (omega arith));
        }

    pub pairs_at_no : keeps m w limit rows k ≡ false → PairsAt m w limit rows (k + 1) used R C before out
    pairs_at_no e = record {
      pairs = v.pairs;
      full = v.full;
      listed = listing.listed_no m w limit rows k v.pairs used R C v.listed e;
      between = v.between;
      rows_at = v.rows_at;
      cols_at = v.cols_at;
    }

-- ---- the same, under other names
pub pairs_at_as : {m : List Float} {w : ℕ} {limit : Float} {rows : List ℕ} {k k' used used' : ℕ} {R R' C C' : List Bool} {before out out' : List ℕ}
    → k ≡ k' → used' ≡ used → R' ≡ R → C' ≡ C → out' ≡ out → PairsAt m w limit rows k used R C before out → PairsAt m w limit rows k' used' R' C' before out'
pairs_at_as {m} {w} {limit} {rows} {k} {k'} {used} {used'} {R} {R'} {C} {C'} {before} {out} {out'} p q r s t v =
    subst (λ (x : ℕ). PairsAt m w limit rows x used' R' C' before out') p (subst (λ (x : ℕ). PairsAt m w limit rows k x R' C' before out') (sym q)
    (subst (λ (x : List Bool). PairsAt m w limit rows k used x C' before out') (sym r) (subst (λ (x : List Bool). PairsAt m w limit rows k used R x before out') (sym s)
    (subst (λ (x : List ℕ). PairsAt m w limit rows k used R C before x) (sym t) v))))

-- ---- what the functions before leave for those after
module _ {d o₁ : List ℕ} (room : 261 ≤ length d) (z : Pasted d 5 (replicate 256 0) 256 o₁) {m : List Float} {w : ℕ} {limit : Float} {rows : List ℕ} {h used : ℕ} {R C : List Bool} {o₂ : List ℕ}
    (v : PairsAt m w limit rows h used R C o₁ o₂) where
  pub pairs_long : length o₂ ≡ length d
  pairs_long = v.cols_at.same_len ∙ v.rows_at.same_len ∙ z.same_len

  behind_pairs : (q : ℕ) → 133 ≤ q → Clear q o₁ → Clear q o₂
  behind_pairs q far c =
      let long = z.same_len in
      let long' = v.rows_at.same_len in
      still_clear v.cols_at (omega arith) (length-map v.pairs _ ∙ v.full) q far (still_clear v.rows_at (omega arith) (length-map v.pairs _ ∙ v.full) q (omega arith) c)

  pub rows_clear : (133 + 64 ≤ length o₂) × Clear 133 o₂
  rows_clear = (omega (arith, pairs_long), behind_pairs 133 (omega arith) (clear_at z room 128 (omega arith)))

  module _ {ur : ℕ} {o₃ : List ℕ} (p : PickedAt o₂ 133 R h ur o₃) where
    pub rows_long : length o₃ ≡ length d
    rows_long = p.pasted.same_len ∙ pairs_long

    pub cols_clear : (197 + 64 ≤ length o₃) × Clear 197 o₃
    cols_clear = (omega (arith, rows_long), still_clear p.pasted (omega (arith, pairs_long)) p.full 197 (omega arith) (behind_pairs 197 (omega arith) (clear_at z room 192 (omega arith))))

-- ---- the whole answer
module _ {d o₁ o₂ : List ℕ} (room : 261 ≤ length d) (z : Pasted d 5 (replicate 256 0) 256 o₁) where
  -- no column: no pair, every row, no column
  pub alone_written : {h used : ℕ} {o₃ : List ℕ} → PickedAt o₁ 133 (replicate 64 false) h used o₂ → Pasted o₂ 0 (0 ∷ used ∷ 0 ∷ 0 ∷ 0 ∷ []) 5 o₃ → o₃ ≡ flat_after (rows_alone h) d
  unfolding flat_after
  alone_written {h} {used} u k =
      let none = replicate 64 no_pair in
      let rows = u.pasted in
      run_is 0 used 0 0 0 room (length-replicate {A = ℕ} 64 0) (length-replicate {A = ℕ} 64 0) u.full (length-replicate {A = ℕ} 64 0)
      z (pasted_clear o₁ 5 (rows_of none) refl (clear_at z room 0 (omega arith))) (pasted_clear o₁ 69 (cols_of none) refl (clear_at z room 64 (omega arith))) rows
      (pasted_clear o₂ 197 (replicate 64 0) refl (still_clear rows (omega (arith, z.same_len)) u.full 197 (omega arith) (clear_at z room 192 (omega arith)))) k
      ∙ ap (λ (r : AssignmentResult). flat_after r d) (listing.alone_is h u.places used u.picked)

  -- what steps A to G and the limit come to
  pub found_written : {m : List Float} {h w : ℕ} {limit : Float} {corrections paths : ℕ} {rows : List ℕ} {used ur uc : ℕ} {R C : List Bool} {o₃ o₄ o₅ : List ℕ} → Solved m h w corrections paths rows
      → PairsAt m w limit rows h used R C o₁ o₂ → PickedAt o₂ 133 R h ur o₃ → PickedAt o₃ 197 C w uc o₄ → Pasted o₄ 0 (used ∷ ur ∷ uc ∷ corrections ∷ paths ∷ []) 5 o₅ → Found m h w limit d o₅
  unfolding flat_after
  found_written {m} {h} {w} {limit} {corrections} {paths} {rows} {used} {ur} {uc} {R} {C} solved v p q k = record {
    corrections = corrections;
    paths = paths;
    rows = rows;
    solved = solved;
    after_is =
        run_is used ur uc corrections paths room (length-map v.pairs _ ∙ v.full) (length-map v.pairs _ ∙ v.full) p.full q.full z v.rows_at v.cols_at p.pasted q.pasted k
        ∙ ap (λ (r : AssignmentResult). flat_after r d) (listing.result_is m w limit rows h v.pairs used R C v.listed corrections paths p.places q.places ur uc p.picked q.picked);
  }
