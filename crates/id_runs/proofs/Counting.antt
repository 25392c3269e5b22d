-- Ids that are new, counted without a place for each: those that are known, and the new ones behind them. Assumes nothing.
use mathlib.Core.Path.{◌≡◌, refl, sym, ap, ◌∙◌}
use mathlib.Core.Bool.{Bool, true, false, cond, not, ◌&&◌, true≢false}
use mathlib.Core.List.{List, [], ◌∷◌, ◌++◌, append_assoc, append-nil}
use Prim.Native.Nat.{ℕ, suc, ◌<◌, ◌≤◌, ◌+◌}
use native.Mathlib.Omega.{arith}
use native.Mathlib.Numerals.{add-one}
use borrow.Author.Tests.{le-ltb, le-leb, lt-leb, ltb-true, ltb-false}
use lib.Dec.{ltb, leb}
use lib.IntN.{ℤ, pos}
use lib.ListN.{length, take, drop, set, get_or, length-append, length-set, drop_of_length-le}
use lib.Seq.{length-take-le, take-suc-set, drop-cons}
use Rattle.counts.specs.Counts.{same_id}
use Rattle.ids.specs.declared.Lookup.{Lookup}
use Rattle.ids.specs.declared.Lookup.TheVariants.{At, Absent}
use Rattle.ids.specs.Ids.{seek_from, seek_of, is_absent}
use Rattle.seen.specs.Seen.{seen_at, seen_one, seen_all}
use Rattle.id_runs.specs.Runs.{fit_in}

-- ---- absent from two lists, one behind the other
shift_step : (b : Bool) (i j : ℕ) (r s : Lookup) → is_absent r ≡ is_absent s → is_absent (cond b (At i) r) ≡ is_absent (cond b (At j) s)
shift_step true i j r s e = refl
shift_step false i j r s e = e

absent_shift : (l : List ℤ) (i j : ℕ) (id : ℤ) → is_absent (seek_from i l id) ≡ is_absent (seek_from j l id)
unfolding seek_from
absent_shift [] i j id = refl
absent_shift (x ∷ xs) i j id = shift_step (same_id x id) i j (seek_from (suc i) xs id) (seek_from (suc j) xs id) (absent_shift xs (suc i) (suc j) id)

both_step : (b : Bool) (i : ℕ) (r s : Lookup) (q : Bool) → is_absent r ≡ (is_absent s && q) → is_absent (cond b (At i) r) ≡ (is_absent (cond b (At i) s) && q)
both_step true i r s q e = refl
both_step false i r s q e = e

absent_both : (a b : List ℤ) (i : ℕ) (id : ℤ) → is_absent (seek_from i (a ++ b) id) ≡ (is_absent (seek_from i a id) && is_absent (seek_from 0 b id))
unfolding seek_from
absent_both [] b i id = absent_shift b i 0 id
absent_both (x ∷ xs) b i id =
    both_step (same_id x id) i (seek_from (suc i) (xs ++ b) id) (seek_from (suc i) xs id) (is_absent (seek_from 0 b id)) (absent_both xs b (suc i) id)

-- what two lookups say of both lists
pub by_two : (a b : List ℤ) (id : ℤ) (r s : Bool) → is_absent (seek_of a id) ≡ r → is_absent (seek_of b id) ≡ s → (r && s) ≡ is_absent (seek_of (a ++ b) id)
by_two a b id r s e f = sym (absent_both a b 0 id ∙ (λ j. e j && f j))

pub not_first : (a b : List ℤ) (id : ℤ) → is_absent (seek_of a id) ≡ false → false ≡ is_absent (seek_of (a ++ b) id)
not_first a b id e = by_two a b id false (is_absent (seek_of b id)) e refl

-- ---- one id
one_new : (l : List ℤ) (id : ℤ) (o : Lookup) → is_absent o ≡ true → seen_at l id o ≡ l ++ (id ∷ [])
unfolding seen_at
one_new l id (At k) e = let z : ◌≡◌ {A = Bool} false true = e in absurd (true≢false (sym z))
one_new l id Absent e = refl

one_known : (l : List ℤ) (id : ℤ) (o : Lookup) → is_absent o ≡ false → seen_at l id o ≡ l
unfolding seen_at
one_known l id (At k) e = refl
one_known l id Absent e = absurd (true≢false e)

-- ---- no more are new than there are
one_short : (l : List ℤ) (id : ℤ) (o : Lookup) → length (seen_at l id o) ≤ length l + 1
unfolding seen_at
one_short l id (At k) = omega arith
one_short l id Absent = let e = length-append l (id ∷ []) in omega arith

pub all_short : (l ids : List ℤ) → length (seen_all l ids) ≤ length l + length ids
unfolding seen_all
all_short l [] = omega arith
all_short l (x ∷ xs) = let a = one_short l x (seek_of l x) in let b = all_short (seen_one l x) xs in omega arith

-- ---- the loop over the ids
pub record Counting (known ids fresh : List ℤ) (count i : ℕ) : Type 0 where
  pub few : count ≤ i
  pub room : length fresh ≡ 64
  pub seen : seen_all (known ++ take count fresh) (drop i ids) ≡ seen_all known ids

pub begins : (known ids fresh : List ℤ) → length fresh ≡ 64 → Counting known ids fresh 0 0
begins known ids fresh n = record { few = (let g : 0 ≤ 0 = omega arith in g); room = n; seen = ap (λ (l : List ℤ). seen_all l ids) (append-nil known) }

module _ (known ids fresh : List ℤ) (count i : ℕ) (s : Counting known ids fresh count i) (id : ℤ) (h : i < length ids) (e : get_or ids i (pos 0) ≡ id) where
  abbrev so_far : List ℤ
  so_far = known ++ take count fresh

  next_id : seen_all (seen_one so_far id) (drop (i + 1) ids) ≡ seen_all known ids
  unfolding seen_all
  next_id = rw (← e, add-one i) (ap (seen_all so_far) (sym (drop-cons ids i (pos 0) h)) ∙ s.seen)

  pub counts : count < 64 → is_absent (seek_of so_far id) ≡ true → Counting known ids (set fresh count id) (count + 1) (i + 1)
  counts c a =
      let n = s.room in
      let f = s.few in
      record {
        few = omega arith;
        room = length-set fresh count id ∙ n;
        seen =
            ap (λ (l : List ℤ). seen_all l (drop (i + 1) ids))
            (ap (λ (l : List ℤ). known ++ l) (ap (λ (k : ℕ). take k (set fresh count id)) (add-one count) ∙ take-suc-set fresh count id (omega arith))
            ∙ (sym (append_assoc known (take count fresh) (id ∷ [])) ∙ sym (one_new so_far id (seek_of so_far id) a)))
            ∙ next_id;
      }

  pub passes : is_absent (seek_of so_far id) ≡ false → Counting known ids fresh count (i + 1)
  passes a =
      let f = s.few in
      record {
        few = omega arith;
        room = s.room;
        seen = ap (λ (l : List ℤ). seen_all l (drop (i + 1) ids)) (sym (one_known so_far id (seek_of so_far id) a)) ∙ next_id;
      }

pub ends : (known ids fresh : List ℤ) (count i : ℕ) → Counting known ids fresh count i → length ids ≤ i → i ≤ 64 → length known + count ≡ length (seen_all known ids)
unfolding seen_all
ends known ids fresh count i s h m =
    let z : drop i ids ≡ [] = drop_of_length-le ids h in
    let a : known ++ take count fresh ≡ seen_all known ids = rw z at s.seen in
    let n = s.room in
    let f = s.few in
    let t = length-take-le count fresh (omega arith) in
    let l = length-append known (take count fresh) in
    let q = ap length a in
    omega arith

-- ---- whether they fit
pub fits : (room : ℕ) (known ids : List ℤ) → length (seen_all known ids) ≤ room → true ≡ fit_in room known ids
fits room known ids h = sym (rw (le-ltb room (length (seen_all known ids)) h))

by_test : (room n : ℕ) (b : Bool) → ltb room n ≡ b → leb n room ≡ not (ltb room n)
by_test room n true e = rw e (lt-leb n room (ltb-true room n e))
by_test room n false e = rw e (le-leb n room (ltb-false room n e))

pub counted_fit : (room n : ℕ) (known ids : List ℤ) → n ≡ length (seen_all known ids) → leb n room ≡ fit_in room known ids
counted_fit room n known ids e = ap (λ (k : ℕ). leb k room) e ∙ by_test room (length (seen_all known ids)) (ltb room (length (seen_all known ids))) refl
