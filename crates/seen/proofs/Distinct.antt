-- What is seen in the end: the ids that were there, the frame's, no other, and none twice. So its length is the number of distinct
-- ids of both, which refusal 5 speaks of. Assumes nothing.
use mathlib.Core.Path.{◌≡◌, refl, sym, ap, ◌∙◌}
use mathlib.Core.Bool.{Bool, true, false, cond, true≢false}
use mathlib.Core.List.{List, [], ◌∷◌, ◌++◌}
use mathlib.Core.Logic.{◌⊎◌, inl, inr, ⊎_elim}
use Prim.Native.Nat.{ℕ, zero, suc, ◌<◌}
use native.Mathlib.Omega.{arith}
use borrow.Author.Tests.{ltb-true, ltb-false, le-leb}
use lib.Dec.{ltb, leb}
use lib.IntN.{ℤ, pos}
use lib.ListN.{length, drop, get_or, length-append, get_or-append}
use lib.Seq.{take-append_seam, get_or-take, get_or-append_seam}
use Rattle.counts.specs.Counts.{same_id}
use Rattle.counts.proofs.Ids.{same_refl}
use Rattle.counts.proofs.Tests.{both}
use Rattle.ids.specs.declared.Lookup.{Lookup}
use Rattle.ids.specs.declared.Lookup.TheVariants.{At, Absent}
use Rattle.ids.specs.Ids.{seek_of, distinct_of}
use Rattle.ids.proofs.Lookups.{found_below, absent_reads}
use Rattle.ids.proofs.NoneTwice.{distinct_reads, distinct_is}
use Rattle.seen.specs.declared.Hypotheses.{Hypotheses}
use Rattle.seen.specs.Seen.{SeenHypotheses, seen_at, seen_one, seen_all, over, hypotheses_of, seen_by, seen_hypotheses, hypotheses_sound}
use Rattle.seen.specs.Holds.{Holds}
use Rattle.seen.proofs.Growth.{found_there, all_long, all_starts}

-- ---- what was there stays
pub kept : (l ids : List ℤ) (id : ℤ) → Holds l id → Holds (seen_all l ids) id
kept l ids id h =
    let a = h.within in
    let b = all_long l ids in
    record {
      place = h.place;
      within = omega arith;
      there = sym (get_or-take (length l) (seen_all l ids) h.place (pos 0) a) ∙ (ap (λ (x : List ℤ). get_or x h.place (pos 0)) (all_starts l ids) ∙ h.there);
    }

-- ---- one id
one_at : (l : List ℤ) (id : ℤ) (o : Lookup) → seek_of l id ≡ o → Holds (seen_at l id o) id
unfolding seen_at
one_at l id (At k) e = record { place = k; within = (let h = found_below 0 l id k e in omega arith); there = found_there l id k e }
one_at l id Absent e =
    record { place = length l; within = (let n = length-append l (id ∷ []) in omega arith); there = get_or-append_seam l id [] (pos 0) }

-- the places of a list with one more
by_place : (l : List ℤ) (x : ℤ) (k : ℕ) (b : Bool) → ltb k (length l) ≡ b → k < length (l ++ (x ∷ [])) → Holds l (get_or (l ++ (x ∷ [])) k (pos 0)) ⊎ (get_or (l ++ (x ∷ [])) k (pos 0) ≡ x)
by_place l x k true e h =
    let p = ltb-true k (length l) e in inl (record { place = k; within = p; there = sym (get_or-append l (x ∷ []) (pos 0) k p) })
by_place l x k false e h =
    let p = ltb-false k (length l) e in
    let n = length-append l (x ∷ []) in
    let z : k ≡ length l = omega arith in
    inr (rw z (get_or-append_seam l x [] (pos 0)))

snoc_holds : (l : List ℤ) (x id : ℤ) → Holds (l ++ (x ∷ [])) id → Holds l id ⊎ (x ≡ id)
snoc_holds l x id h =
    ⊎_elim (λ (a : Holds l (get_or (l ++ (x ∷ [])) h.place (pos 0))). inl (rw h.there at a))
    (λ (q : get_or (l ++ (x ∷ [])) h.place (pos 0) ≡ x). inr (sym q ∙ h.there))
    (by_place l x h.place (ltb h.place (length l)) refl h.within)

one_no_more : (l : List ℤ) (x id : ℤ) (o : Lookup) → Holds (seen_at l x o) id → Holds l id ⊎ (x ≡ id)
unfolding seen_at
one_no_more l x id (At k) h = inl h
one_no_more l x id Absent h = snoc_holds l x id h

-- ---- all of them
later : (x : ℤ) (xs : List ℤ) (id : ℤ) → Holds xs id → Holds (x ∷ xs) id
later x xs id h = record { place = suc h.place; within = (let a = h.within in omega arith); there = h.there }

-- the first of them, or one of the rest
first_or : (x : ℤ) (xs : List ℤ) (id : ℤ) (k : ℕ) → k < length (x ∷ xs) → get_or (x ∷ xs) k (pos 0) ≡ id → (x ≡ id) ⊎ Holds xs id
first_or x xs id zero p e = inl e
first_or x xs id (suc k) p e = inr (record { place = k; within = omega arith; there = e })

pub all_seen : (l ids : List ℤ) (id : ℤ) → Holds ids id → Holds (seen_all l ids) id
unfolding seen_all
all_seen l [] id h = let a : h.place < 0 = h.within in absurd (omega arith)
all_seen l (x ∷ xs) id h =
    ⊎_elim (λ (e : x ≡ id). rw (← e) (kept (seen_one l x) xs x (one_at l x (seek_of l x) refl))) (λ (r : Holds xs id). all_seen (seen_one l x) xs id r)
    (first_or x xs id h.place h.within h.there)

pub no_more : (l ids : List ℤ) (id : ℤ) → Holds (seen_all l ids) id → Holds l id ⊎ Holds ids id
unfolding seen_all
no_more l [] id h = inl h
no_more l (x ∷ xs) id h =
    ⊎_elim
    (λ (a : Holds (seen_one l x) id).
    ⊎_elim (λ (b : Holds l id). inl b) (λ (q : x ≡ id). inr (record { place = 0; within = omega arith; there = q })) (one_no_more l x id (seek_of l x) a))
    (λ (b : Holds xs id). inr (later x xs id b))
    (no_more (seen_one l x) xs id h)

-- ---- none twice
last_apart : (l : List ℤ) (x : ℤ) → seek_of l x ≡ Absent → (i : ℕ) → i < length l → get_or l i (pos 0) ≡ x → ⊥
last_apart l x e i h q = true≢false (sym (same_refl x) ∙ (ap (λ (y : ℤ). same_id y x) (sym q) ∙ absent_reads 0 l x e i h))

snoc_apart : (l : List ℤ) (x : ℤ) → seek_of l x ≡ Absent → distinct_of l ≡ true → (i j : ℕ) → i < j → j < length (l ++ (x ∷ [])) → (b : Bool) → ltb j (length l) ≡ b
    → get_or (l ++ (x ∷ [])) i (pos 0) ≡ get_or (l ++ (x ∷ [])) j (pos 0) → ⊥
snoc_apart l x e d i j p q true t s =
    let h = ltb-true j (length l) t in
    distinct_reads l d i j p h (sym (get_or-append l (x ∷ []) (pos 0) i (omega arith)) ∙ (s ∙ get_or-append l (x ∷ []) (pos 0) j h))
snoc_apart l x e d i j p q false t s =
    let h = ltb-false j (length l) t in
    let n = length-append l (x ∷ []) in
    let z : j ≡ length l = omega arith in
    let k : i < length l = omega arith in
    last_apart l x e i k (sym (get_or-append l (x ∷ []) (pos 0) i k) ∙ (s ∙ rw z (get_or-append_seam l x [] (pos 0))))

one_once : (l : List ℤ) (x : ℤ) (o : Lookup) → seek_of l x ≡ o → distinct_of l ≡ true → distinct_of (seen_at l x o) ≡ true
unfolding seen_at
one_once l x (At k) e d = d
one_once l x Absent e d =
    distinct_is (l ++ (x ∷ [])) (λ (i j : ℕ) (p : i < j) (q : j < length (l ++ (x ∷ []))). snoc_apart l x e d i j p q (ltb j (length l)) refl)

pub all_once : (l ids : List ℤ) → distinct_of l ≡ true → distinct_of (seen_all l ids) ≡ true
unfolding seen_all
all_once l [] d = d
all_once l (x ∷ xs) d = all_once (seen_one l x) xs (one_once l x (seek_of l x) refl d)

-- ---- ids that are all there already
at_or_absent : (l : List ℤ) (id : ℤ) (o : Lookup) → seek_of l id ≡ o → Holds l id → seen_at l id o ≡ l
unfolding seen_at
at_or_absent l id (At k) e h = refl
at_or_absent l id Absent e h = absurd (last_apart l id e h.place h.within h.there)

pub none_new : (l ids : List ℤ) → ((id : ℤ) → Holds ids id → Holds l id) → seen_all l ids ≡ l
unfolding seen_all
none_new l [] f = refl
none_new l (x ∷ xs) f =
    let here : Holds l x = f x (record { place = 0; within = omega arith; there = refl }) in
    ap (λ (y : List ℤ). seen_all y xs) (at_or_absent l x (seek_of l x) refl here)
    ∙ none_new l xs (λ (id : ℤ) (h : Holds xs id). f id (later x xs id h))

-- ---- sound hypotheses stay sound, full or not
kept_sound : (b : Bool) (h : Hypotheses) (l : List ℤ) → ltb 1024 (length l) ≡ b → hypotheses_sound h ≡ true → distinct_of l ≡ true
    → hypotheses_sound (cond {A = SeenHypotheses} b (record { full = true; hypotheses = h }) (record { full = false; hypotheses = hypotheses_of (over l h.ids) (length l) })).hypotheses ≡ true
unfolding hypotheses_sound
kept_sound true h l e s d = s
kept_sound false h l e s d = rw (le-leb (length l) 1024 (ltb-false 1024 (length l) e), take-append_seam l (drop (length l) h.ids)) d

pub seen_once : (h : Hypotheses) → hypotheses_sound h ≡ true → distinct_of (seen_by h) ≡ true
unfolding hypotheses_sound
seen_once h s = (both (leb h.used 1024) (distinct_of (seen_by h)) s).1

pub hypotheses_stay_sound : (h : Hypotheses) (ids : List ℤ) → hypotheses_sound h ≡ true → hypotheses_sound (seen_hypotheses h ids).hypotheses ≡ true
unfolding seen_hypotheses
hypotheses_stay_sound h ids s =
    let l = seen_all (seen_by h) ids in kept_sound (ltb 1024 (length l)) h l refl s (all_once (seen_by h) ids (seen_once h s))
