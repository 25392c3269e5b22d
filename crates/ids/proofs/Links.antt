-- All chains, with one id more, and what they say of the ids. Assumes nothing.
use mathlib.Core.Path.{◌≡◌, refl, sym, ap, ◌∙◌}
use mathlib.Core.Bool.{Bool, true, false, true≢false}
use mathlib.Core.List.{List}
use Prim.Native.Nat.{ℕ, suc, ◌<◌, ◌≤◌, ◌+◌, zero-le}
use native.Mathlib.Omega.{arith}
use borrow.Author.Tests.{eqb-true, eqb-false}
use lib.Dec.{eqb}
use lib.IntN.{ℤ, pos}
use lib.ListN.{length, take, set, get_or, replicate, length-set, get_or-replicate}
use lib.Seq.{get_or-take, length-take-le, get_or-set_same, get_or-set_other}
use Rattle.counts.specs.Counts.{same_id}
use Rattle.counts.proofs.Ids.{same_refl}
use Rattle.ids.specs.Ids.{seek_of, is_absent, distinct_of}
use Rattle.ids.specs.Chains.{id_at, bucket_of, Last, Chained}
use Rattle.ids.proofs.Lookups.{not_same, absent_reads, absent_is, absent_yes}
use Rattle.ids.proofs.NoneTwice.{distinct_reads, distinct_is}

-- the first i ids are on their chains, and none of them stands twice
pub record Linked (ids : List ℤ) (heads links : List ℕ) (i : ℕ) : Type 0 where
  pub many_heads : length heads ≡ 1024
  pub many_links : length links ≡ 1024
  pub last_of : (b : ℕ) → b < 1024 → Last ids b i (get_or heads b 0)
  pub chained : Chained ids links i
  pub apart : (j k : ℕ) → j < k → k < i → id_at ids j ≡ id_at ids k → ⊥

no_place : (ids : List ℤ) (b : ℕ) → Last ids b 0 0
no_place ids b =
    record {
      low = zero-le;
      in_bucket = λ (j : ℕ) (e : 0 ≡ suc j). absurd (omega arith);
      none_after = λ (j : ℕ) (p : 0 ≤ j) (q : j < 0) r. absurd (omega arith);
    }

pub linked_none : (ids : List ℤ) → Linked ids (replicate 1024 0) (replicate 1024 0) 0
linked_none ids =
    record {
      many_heads = refl;
      many_links = refl;
      last_of = λ (b : ℕ) (h : b < 1024). rw (get_or-replicate {A = ℕ} 1024 b 0 0 h) (no_place ids b);
      chained = λ (j : ℕ) (h : j < 0). absurd (omega arith);
      apart = λ (j k : ℕ) (p : j < k) (q : k < 0) e. absurd (omega arith);
    }

-- ---- one place more
-- it is the last of its bucket, and changes no other bucket
place_in : (ids : List ℤ) (i : ℕ) → Last ids (bucket_of (id_at ids i)) (i + 1) (i + 1)
place_in ids i =
    record {
      low = omega arith;
      in_bucket = λ (j : ℕ) (q : i + 1 ≡ suc j). ap (λ (k : ℕ). bucket_of (id_at ids k)) (let y : j ≡ i = omega arith in y);
      none_after = λ (j : ℕ) (p : i + 1 ≤ j) (q : j < i + 1) r. absurd (omega arith);
    }

after : (ids : List ℤ) (i b last : ℕ) → Last ids b i last → (b ≡ bucket_of (id_at ids i) → ⊥) → (j : ℕ) → last ≤ j → j < i + 1 → bucket_of (id_at ids j) ≡ b
    → (t : Bool) → eqb j i ≡ t → ⊥
after ids i b last l d j p q r true e = d (sym r ∙ ap (λ (k : ℕ). bucket_of (id_at ids k)) (eqb-true j i e))
after ids i b last l d j p q r false e = let n = eqb-false j i e in l.none_after j p (omega arith) r

place_out : (ids : List ℤ) (i b last : ℕ) → Last ids b i last → (b ≡ bucket_of (id_at ids i) → ⊥) → Last ids b (i + 1) last
place_out ids i b last l d =
    let h = l.low in
    record {
      low = omega arith;
      in_bucket = l.in_bucket;
      none_after = λ (j : ℕ) (p : last ≤ j) (q : j < i + 1) (r : bucket_of (id_at ids j) ≡ b). after ids i b last l d j p q r (eqb j i) refl;
    }

module _ (ids : List ℤ) (heads links : List ℕ) (i : ℕ) (g : Linked ids heads links i) (few : i < 1024) (long : i < length ids) where
  head_more : (own : ℕ) → own ≡ bucket_of (id_at ids i) → own < 1024 → (b : ℕ) → b < 1024 → (t : Bool) → eqb b own ≡ t → Last ids b (i + 1) (get_or (set heads own (i + 1)) b 0)
  head_more own o h b hb true e =
      let m = g.many_heads in
      rw (eqb-true b own e, get_or-set_same heads own (i + 1) 0 (omega arith), o) (place_in ids i)
  head_more own o h b hb false e =
      let d = eqb-false b own e in
      rw (get_or-set_other heads own b (i + 1) 0 d) (place_out ids i b (get_or heads b 0) (g.last_of b hb) (λ (q : b ≡ bucket_of (id_at ids i)). d (q ∙ sym o)))

  link_more : (last : ℕ) → Last ids (bucket_of (id_at ids i)) i last → (j : ℕ) → j < i + 1 → (t : Bool) → eqb j i ≡ t
      → Last ids (bucket_of (id_at ids j)) j (get_or (set links i last) j 0)
  link_more last l j h true e =
      let m = g.many_links in
      rw (eqb-true j i e, get_or-set_same links i last 0 (omega arith)) l
  link_more last l j h false e =
      let d = eqb-false j i e in
      rw (get_or-set_other links i j last 0 d) (g.chained j (omega arith))

  apart_more : is_absent (seek_of (take i ids) (id_at ids i)) ≡ true → (j k : ℕ) → j < k → k < i + 1 → id_at ids j ≡ id_at ids k → (t : Bool) → eqb k i ≡ t → ⊥
  apart_more a j k p q s true e =
      let z = eqb-true k i e in
      let n = length-take-le i ids (omega arith) in
      let l : j < i = omega arith in
      let same : get_or (take i ids) j (pos 0) ≡ id_at ids i = get_or-take i ids j (pos 0) l ∙ (s ∙ ap (id_at ids) z) in
      true≢false (sym (same_refl (id_at ids i)) ∙ (ap (λ (x : ℤ). same_id x (id_at ids i)) (sym same) ∙ absent_reads 0 (take i ids) (id_at ids i) (absent_yes _ a) j (omega arith)))
  apart_more a j k p q s false e = let d = eqb-false k i e in g.apart j k p (omega arith) s

  pub linked_more : (own last : ℕ) → own ≡ bucket_of (id_at ids i) → own < 1024 → last ≡ get_or heads own 0
      → is_absent (seek_of (take i ids) (id_at ids i)) ≡ true → Linked ids (set heads own (i + 1)) (set links i last) (i + 1)
  linked_more own last o h e a =
      record {
        many_heads = length-set heads own (i + 1) ∙ g.many_heads;
        many_links = length-set links i last ∙ g.many_links;
        last_of = λ (b : ℕ) (hb : b < 1024). head_more own o h b hb (eqb b own) refl;
        chained = λ (j : ℕ) (hj : j < i + 1). link_more last (rw (e, ← o) (g.last_of own h)) j hj (eqb j i) refl;
        apart = λ (j k : ℕ) (p : j < k) (q : k < i + 1) (s : id_at ids j ≡ id_at ids k). apart_more a j k p q s (eqb k i) refl;
      }

-- ---- what the test answers
pub all_apart : (ids : List ℤ) (heads links : List ℕ) (i : ℕ) → Linked ids heads links i → length ids ≤ i → distinct_of ids ≡ true
all_apart ids heads links i g h = distinct_is ids (λ (j k : ℕ) (p : j < k) (q : k < length ids). g.apart j k p (omega arith))

module _ (ids : List ℤ) (i : ℕ) (h : i < length ids) (e : is_absent (seek_of (take i ids) (id_at ids i)) ≡ false) where
  by_answer : (b : Bool) → distinct_of ids ≡ b → distinct_of ids ≡ false
  by_answer true d =
      let n = length-take-le i ids (omega arith) in
      let no : (j : ℕ) → j < length (take i ids) → same_id (get_or (take i ids) j (pos 0)) (id_at ids i) ≡ false =
      λ j q. (let l : j < i = omega arith in
      not_same _ _ (λ (s : get_or (take i ids) j (pos 0) ≡ id_at ids i). distinct_reads ids d j i l h (sym (get_or-take i ids j (pos 0) l) ∙ s)) _ refl) in
      absurd (true≢false (sym (ap is_absent (absent_is 0 (take i ids) (id_at ids i) no)) ∙ e))
  by_answer false d = d

  pub one_twice : distinct_of ids ≡ false
  one_twice = by_answer (distinct_of ids) refl
