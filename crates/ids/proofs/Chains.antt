-- An id looked for along its chain. Assumes nothing.
use mathlib.Core.Path.{◌≡◌, refl, sym, ap, ◌∙◌}
use mathlib.Core.Bool.{Bool, true, false, true≢false}
use mathlib.Core.List.{List}
use Prim.Native.Nat.{ℕ, suc, ◌<◌, ◌≤◌, ◌-◌, zero-le}
use native.Mathlib.Omega.{arith}
use borrow.Author.Tests.{eqb-true, eqb-false, ltb-true, ltb-false}
use lib.Dec.{eqb, ltb}
use lib.IntN.{ℤ, pos}
use lib.ListN.{length, take}
use lib.Seq.{get_or-take, length-take-le}
use Rattle.counts.specs.Counts.{same_id}
use Rattle.ids.specs.Ids.{seek_of, is_absent}
use Rattle.ids.specs.Chains.{id_at, bucket_of, Last}
use Rattle.ids.proofs.Lookups.{absent_reads, absent_is, absent_yes}
use Rattle.ids.proofs.Buckets.{other_bucket}

-- of the first i places those from at on don't hold the id; the one before them, if there is one, has its bucket
pub record Walk (ids : List ℤ) (id : ℤ) (i at : ℕ) : Type 0 where
  pub low : at ≤ i
  pub in_bucket : (j : ℕ) → at ≡ suc j → bucket_of (id_at ids j) ≡ bucket_of id
  pub none_after : (j : ℕ) → at ≤ j → j < i → same_id (id_at ids j) id ≡ false

module _ (ids : List ℤ) (id : ℤ) (i : ℕ) where
  pub walk_starts : (last : ℕ) → Last ids (bucket_of id) i last → Walk ids id i last
  walk_starts last l =
      record {
        low = l.low;
        in_bucket = l.in_bucket;
        none_after = λ (j : ℕ) (p : last ≤ j) (q : j < i). other_bucket (id_at ids j) id (l.none_after j p q);
      }

  -- the place passed, those after it, and those between it and the next
  passed : (at next : ℕ) → 0 < at → Walk ids id i at → same_id (id_at ids (at - 1)) id ≡ false → Last ids (bucket_of (id_at ids (at - 1))) (at - 1) next
      → (j : ℕ) → next ≤ j → j < i → (before here : Bool) → ltb j (at - 1) ≡ before → eqb j (at - 1) ≡ here → same_id (id_at ids j) id ≡ false
  passed at next z w s l j p q true here e f =
      other_bucket (id_at ids j) id (λ (b : bucket_of (id_at ids j) ≡ bucket_of id). l.none_after j p (ltb-true j (at - 1) e) (b ∙ sym (w.in_bucket (at - 1) (omega arith))))
  passed at next z w s l j p q false true e f = ap (λ (k : ℕ). same_id (id_at ids k) id) (eqb-true j (at - 1) f) ∙ s
  passed at next z w s l j p q false false e f =
      let a = ltb-false j (at - 1) e in
      let b = eqb-false j (at - 1) f in
      w.none_after j (omega arith) q

  pub walk_goes_on : (at next : ℕ) → 0 < at → Walk ids id i at → same_id (id_at ids (at - 1)) id ≡ false
      → Last ids (bucket_of (id_at ids (at - 1))) (at - 1) next → Walk ids id i next
  walk_goes_on at next z w s l =
      let h = l.low in
      let g = w.low in
      record {
        low = omega arith;
        in_bucket = λ (j : ℕ) (e : next ≡ suc j). l.in_bucket j e ∙ w.in_bucket (at - 1) (omega arith);
        none_after = λ (j : ℕ) (p : next ≤ j) (q : j < i). passed at next z w s l j p q (ltb j (at - 1)) (eqb j (at - 1)) refl refl;
      }

  pub walk_ends : i ≤ length ids → Walk ids id i 0 → is_absent (seek_of (take i ids) id) ≡ true
  walk_ends h w =
      let n = length-take-le i ids h in
      ap is_absent (absent_is 0 (take i ids) id (λ (j : ℕ) (q : j < length (take i ids)).
      let l : j < i = omega arith in ap (λ (z : ℤ). same_id z id) (get_or-take i ids j (pos 0) l) ∙ w.none_after j zero-le l))

  stands : i ≤ length ids → (j : ℕ) → j < i → same_id (id_at ids j) id ≡ true → (b : Bool) → is_absent (seek_of (take i ids) id) ≡ b → is_absent (seek_of (take i ids) id) ≡ false
  stands h j l s true e =
      let n = length-take-le i ids h in
      absurd (true≢false (sym s ∙ (ap (λ (z : ℤ). same_id z id) (sym (get_or-take i ids j (pos 0) l)) ∙ absent_reads 0 (take i ids) id (absent_yes _ e) j (omega arith))))
  stands h j l s false e = e

  pub walk_finds : i ≤ length ids → (j : ℕ) → j < i → same_id (id_at ids j) id ≡ true → is_absent (seek_of (take i ids) id) ≡ false
  walk_finds h j l s = stands h j l s (is_absent (seek_of (take i ids) id)) refl
