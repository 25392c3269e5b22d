-- The table read as a map: after a pair its truth id's last partner is its hypothesis, and every other id keeps its own. Assumes nothing.
use Rattle.std.specs.Prelude.{Option, Some}
use mathlib.Core.Path.{◌≡◌, refl, sym, ap, ◌∙◌}
use mathlib.Core.Bool.{Bool, true, false, cond, true≢false}
use mathlib.Core.List.{List, [], ◌∷◌, ◌++◌}
use Prim.Native.Nat.{ℕ, suc, ◌+◌}
use native.Mathlib.Omega.{arith}
use lib.IntN.{ℤ, pos}
use lib.ListN.{length, set, get_or, get_or-append}
use lib.Seq.{get_or-set_same, get_or-set_other, get_or_at}
use Rattle.counts.specs.Counts.{same_id}
use Rattle.counts.proofs.Ids.{same_refl}
use Rattle.ids.specs.declared.Lookup.{Lookup}
use Rattle.ids.specs.declared.Lookup.TheVariants.{At, Absent}
use Rattle.ids.specs.Ids.{seek_from, seek_of}
use Rattle.ids.proofs.Lookups.{found_below}
use Rattle.seen.proofs.Growth.{found_there}
use Rattle.partners.specs.Partners.{nobody, last_is, Pair, Table, last_at, last_of, match_at, match_one}

-- ---- a lookup in a list with one more
found_step : (b : Bool) (i k : ℕ) (r s : Lookup) → (r ≡ At k → s ≡ At k) → cond b (At i) r ≡ At k → cond b (At i) s ≡ At k
found_step true i k r s f e = e
found_step false i k r s f e = f e

seek_found : (i : ℕ) (l m : List ℤ) (id : ℤ) (k : ℕ) → seek_from i l id ≡ At k → seek_from i (l ++ m) id ≡ At k
unfolding seek_from
seek_found i [] m id k e = let z : ◌≡◌ {A = ℕ} 0 1 = cc in absurd (omega arith)
seek_found i (x ∷ xs) m id k e = found_step (same_id x id) i k (seek_from (suc i) xs id) (seek_from (suc i) (xs ++ m) id) (seek_found (suc i) xs m id k) e

absent_step : (b : Bool) (i : ℕ) (r s t : Lookup) → (r ≡ Absent → s ≡ t) → cond b (At i) r ≡ Absent → cond b (At i) s ≡ t
absent_step true i r s t f e = let z : ◌≡◌ {A = ℕ} 0 1 = cc in absurd (omega arith)
absent_step false i r s t f e = f e

seek_last : (i : ℕ) (l : List ℤ) (id : ℤ) → seek_from i l id ≡ Absent → seek_from i (l ++ (id ∷ [])) id ≡ At (i + length l)
unfolding seek_from
seek_last i [] id e = let z : i ≡ i + 0 = omega arith in rw (same_refl id) (ap At z)
seek_last i (x ∷ xs) id e =
    let z : suc i + length xs ≡ i + suc (length xs) = omega arith in
    absent_step (same_id x id) i (seek_from (suc i) xs id) (seek_from (suc i) (xs ++ (id ∷ [])) id) (At (i + suc (length xs)))
    (λ (h : seek_from (suc i) xs id ≡ Absent). seek_last (suc i) xs id h ∙ ap At z) e

seek_other : (i : ℕ) (l : List ℤ) (x id : ℤ) → same_id x id ≡ false → seek_from i l id ≡ Absent → seek_from i (l ++ (x ∷ [])) id ≡ Absent
unfolding seek_from
seek_other i [] x id d e = rw d
seek_other i (y ∷ ys) x id d e =
    absent_step (same_id y id) i (seek_from (suc i) ys id) (seek_from (suc i) (ys ++ (x ∷ [])) id) Absent (seek_other (suc i) ys x id d) e

-- ---- one pair
module _ (t : Table) (p : Pair) (l : length t.lasts ≡ length t.ids) where
  abbrev next : Option ℤ
  next = last_is p.hypothesis

  set_at : (o : Lookup) → seek_of t.ids p.truth ≡ o → last_of (match_at t p o) p.truth ≡ Some p.hypothesis
  unfolding match_at
  set_at (At k) e =
      let h = found_below 0 t.ids p.truth k e in
      ap (last_at (set t.lasts k next)) e ∙ ap (λ (x : Option ℤ). x) (get_or-set_same t.lasts k next nobody (omega arith))
  set_at Absent e =
      ap (last_at (t.lasts ++ (next ∷ []))) (seek_last 0 t.ids p.truth e)
      ∙ ap (λ (x : Option ℤ). x) (get_or_at t.lasts next [] nobody (0 + length t.ids) (omega arith))

  pub last_set : last_of (match_one t p) p.truth ≡ Some p.hypothesis
  last_set = set_at (seek_of t.ids p.truth) refl

  module _ (id : ℤ) (d : same_id p.truth id ≡ false) where
    apart : (k j : ℕ) → seek_of t.ids p.truth ≡ At k → seek_of t.ids id ≡ At j → j ≡ k → ⊥
    apart k j e g q =
        let same : p.truth ≡ id = sym (found_there t.ids p.truth k e) ∙ (ap (λ (n : ℕ). get_or t.ids n (pos 0)) (sym q) ∙ found_there t.ids id j g) in
        true≢false (sym (same_refl id) ∙ (ap (λ (z : ℤ). same_id z id) (sym same) ∙ d))

    keep_at : (o q : Lookup) → seek_of t.ids p.truth ≡ o → seek_of t.ids id ≡ q → last_of (match_at t p o) id ≡ last_of t id
    unfolding match_at
    keep_at (At k) (At j) e g =
        ap (last_at (set t.lasts k next)) g
        ∙ (ap (λ (x : Option ℤ). x) (get_or-set_other t.lasts k j next nobody (apart k j e g)) ∙ ap (last_at t.lasts) (sym g))
    keep_at (At k) Absent e g = ap (last_at (set t.lasts k next)) g ∙ ap (last_at t.lasts) (sym g)
    keep_at Absent (At j) e g =
        let h = found_below 0 t.ids id j g in
        ap (last_at (t.lasts ++ (next ∷ []))) (seek_found 0 t.ids (p.truth ∷ []) id j g)
        ∙ (ap (λ (x : Option ℤ). x) (get_or-append t.lasts (next ∷ []) nobody j (omega arith)) ∙ ap (last_at t.lasts) (sym g))
    keep_at Absent Absent e g =
        ap (last_at (t.lasts ++ (next ∷ []))) (seek_other 0 t.ids p.truth id d g) ∙ ap (last_at t.lasts) (sym g)

    pub last_kept : last_of (match_one t p) id ≡ last_of t id
    last_kept = keep_at (seek_of t.ids p.truth) (seek_of t.ids id) refl refl
