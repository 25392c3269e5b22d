use Rattle.std.specs.Prelude.{Option}
-- One turn of the booking of pairs: the table in use is the definition's, and what lies beyond it is kept. Assumes nothing.
use mathlib.Core.Path.{◌≡◌, refl, sym, ap, ◌∙◌, subst}
use mathlib.Core.Bool.{Bool, true, false}
use mathlib.Core.List.{List, [], ◌∷◌, ◌++◌, map, append_assoc, append-nil}
use Prim.Native.Nat.{ℕ, zero, suc, ◌<◌, ◌≤◌, ◌+◌, ◌*◌, ◌/◌, ◌%◌}
use native.Mathlib.Nat.{mul-zero, div-lt_iff_lt-mul, mod-lt}
use native.Mathlib.Omega.{arith}
use native.Mathlib.Numerals.{add-one}
use borrow.Author.Tests.{lt-ltb, le-ltb}
use lib.IntN.{ℤ, pos}
use mir.Syntax.{w32}
use mir.Val.{to_z, of_z}
use lib.ListN.{length, take, drop, set, get_or, length-append, length-set, length-map, drop_of_length-le, get_or-map}
use lib.Seq.{length-take-le, take-set-lt, take-suc-set, drop-set-lt, get_or-take, drop-cons}
use Rattle.counts.proofs.Ids.{Small, back}
use Rattle.ids.specs.declared.Lookup.{Lookup}
use Rattle.ids.specs.declared.Lookup.TheVariants.{At, Absent}
use Rattle.ids.specs.Ids.{seek_of}
use Rattle.slots.specs.Slots.{switches}
use Rattle.ids.proofs.Lookups.{found_below}
use Rattle.seen.specs.Seen.{seen_at, place_of, used_with}
use Rattle.seen.proofs.Growth.{turn, full_run, drop_more, over_front, grows}
use Rattle.partners.specs.declared.Truths.{Truths}
use Rattle.partners.specs.Partners.{nobody, last_is, Pair, pair_at, pairs_of, Table, last_in, last_at, match_at, match_one, match_all, switches_of, table_of, none, booked_with, booked_of}

abbrev pub front : List ℤ → List (Option ℤ) → ℕ → Table
front ids lasts used = record { ids = take used ids; lasts = take used lasts }

-- ---- a place of a matrix of n rows and w columns
some_columns : (k n w : ℕ) → k < n * w → 0 < w
some_columns k n zero h = let z : n * 0 ≡ 0 = mul-zero n in absurd (omega arith)
some_columns k n (suc w) h = omega arith

abbrev pub Inside : ℕ → ℕ → ℕ → Type 0
Inside k n w = (0 < w) × (k / w < n) × (k % w < w)

pub place_in : (k n w : ℕ) → k < n * w → Inside k n w
place_in k n w h = let p = some_columns k n w h in (p, (div-lt_iff_lt-mul p).1 h, mod-lt k p)

-- the two ids of a pair, read at the row and the column of its place
abbrev pub Ends : List ℤ → List ℤ → ℕ → ℕ → Type 0
Ends truths hypotheses place k =
    (to_z w32 (of_z w32 (get_or truths (place / length hypotheses) (pos 0))) ≡ (pair_at truths hypotheses k).truth)
    × (to_z w32 (of_z w32 (get_or hypotheses (place % length hypotheses) (pos 0))) ≡ (pair_at truths hypotheses k).hypothesis)

pub ends_at : (truths hypotheses : List ℤ) (place k : ℕ) → place ≡ k → Small (get_or truths (place / length hypotheses) (pos 0)) → Small (get_or hypotheses (place % length hypotheses) (pos 0))
    → Ends truths hypotheses place k
ends_at truths hypotheses place k e t h =
    (back _ t ∙ ap (λ (i : ℕ). get_or truths (i / length hypotheses) (pos 0)) e, back _ h ∙ ap (λ (i : ℕ). get_or hypotheses (i % length hypotheses) (pos 0)) e)

-- ---- one pair
pub ids_at : (t : Table) (p : Pair) (o : Lookup) → (match_at t p o).ids ≡ seen_at t.ids p.truth o
unfolding match_at seen_at
ids_at t p (At k) = refl
ids_at t p Absent = refl

module _ (ids : List ℤ) (lasts : List (Option ℤ)) (used : ℕ) (p : Pair) (h : used ≤ length ids) (l : length lasts ≡ length ids) where
  abbrev Sets : Lookup → Type 0
  Sets o =
      (take (used_with o used) (set lasts (place_of o used) (last_is p.hypothesis)) ≡ (match_at (front ids lasts used) p o).lasts)
      × (drop (used_with o used) (set lasts (place_of o used) (last_is p.hypothesis)) ≡ drop (used_with o used) lasts)
      × (last_in o (get_or lasts (place_of o used) nobody) ≡ last_at (take used lasts) o)

  by_lookup : (o : Lookup) → seek_of (take used ids) p.truth ≡ o → place_of o used < length ids → Sets o
  unfolding match_at
  by_lookup (At k) e q =
      let a = found_below 0 (take used ids) p.truth k e in
      let n = length-take-le used ids h in
      let b : k < used = omega arith in (
        take-set-lt used lasts k (last_is p.hypothesis) b,
        drop-set-lt used lasts k (last_is p.hypothesis) b,
        ap (λ (x : Option ℤ). x) (sym (get_or-take used lasts k nobody b)),
      )
  by_lookup Absent e q =
      (rw (add-one used) (take-suc-set lasts used (last_is p.hypothesis) (omega arith)), drop-set-lt (used + 1) lasts used (last_is p.hypothesis) (omega arith), refl)

  abbrev found : Lookup
  found = seek_of (take used ids) p.truth

  table_turn : place_of found used < length ids
      → front (set ids (place_of found used) p.truth) (set lasts (place_of found used) (last_is p.hypothesis)) (used_with found used) ≡ match_one (front ids lasts used) p
  table_turn q =
      let a = (turn ids used p.truth h q).1 ∙ sym (ids_at (front ids lasts used) p found) in
      let b = (by_lookup found refl q).0 in
      λ j. record { ids = a j; lasts = b j }

-- no id ever goes
match_long : (t : Table) (p : Pair) (o : Lookup) → length t.ids ≤ length (match_at t p o).ids
unfolding match_at
match_long t p (At k) = omega arith
match_long t p Absent = let e = length-append t.ids (p.truth ∷ []) in omega arith

all_long : (t : Table) (ps : List Pair) → length t.ids ≤ length (match_all t ps).ids
unfolding match_all
all_long t [] = omega arith
all_long t (p ∷ ps) = let a = match_long t p (seek_of t.ids p.truth) in let b = all_long (match_one t p) ps in omega arith

-- ---- the loop over the pairs
pub record Booking (t : Truths) (ps : List Pair) (ids : List ℤ) (lasts : List (Option ℤ)) (used : ℕ) (switched : List Bool) (i : ℕ) : Type 0 where
  pub ids_long : length ids ≡ 256
  pub lasts_long : length lasts ≡ 256
  pub flags_long : length switched ≡ 64
  pub few : used ≤ 256
  pub ids_kept : drop used ids ≡ drop used t.ids
  pub lasts_kept : drop used lasts ≡ drop used t.lasts
  pub flags_kept : drop i switched ≡ drop i none
  pub table : match_all (front ids lasts used) (drop i ps) ≡ match_all (table_of t) ps
  pub flags : take i switched ++ switches_of (front ids lasts used) (drop i ps) ≡ switches_of (table_of t) ps

pub begins : (t : Truths) (ps : List Pair) → length t.ids ≡ 256 → length t.lasts ≡ 256 → t.used ≤ 256 → Booking t ps t.ids t.lasts t.used none 0
begins t ps a b h =
    record { ids_long = a; lasts_long = b; flags_long = refl; few = h; ids_kept = refl; lasts_kept = refl; flags_kept = refl; table = refl; flags = refl }

module _ (t : Truths) (ps : List Pair) (ids : List ℤ) (lasts : List (Option ℤ)) (used : ℕ) (switched : List Bool) (i : ℕ) (g : Booking t ps ids lasts used switched i) (p : Pair)
    (d : drop i ps ≡ p ∷ drop (i + 1) ps) where
  abbrev o : Lookup
  o = seek_of (take used ids) p.truth

  next_table : match_all (match_one (front ids lasts used) p) (drop (i + 1) ps) ≡ match_all (table_of t) ps
  unfolding match_all
  next_table = ap (match_all (front ids lasts used)) (sym d) ∙ g.table

  next_flags : take i switched ++ (switches (last_at (take used lasts) o) p.hypothesis ∷ switches_of (match_one (front ids lasts used) p) (drop (i + 1) ps)) ≡ switches_of (table_of t) ps
  unfolding switches_of
  next_flags = ap (λ (x : List Pair). take i switched ++ switches_of (front ids lasts used) x) (sym d) ∙ g.flags

  books_at : i < 64 → place_of o used < 256
      → Booking t ps (set ids (place_of o used) p.truth) (set lasts (place_of o used) (last_is p.hypothesis)) (used_with o used)
      (set switched i (switches (last_at (take used lasts) o) p.hypothesis)) (i + 1)
  books_at h q =
      let n = g.ids_long in
      let m = g.lasts_long in
      let k = g.few in
      let f = g.flags_long in
      let q' : place_of o used < length ids = omega arith in
      let k' : used ≤ length ids = omega arith in
      let w = by_lookup ids lasts used p k' (m ∙ sym n) o refl q' in
      let v = turn ids used p.truth k' q' in
      let tt' = table_turn ids lasts used p k' (m ∙ sym n) q' in
      let b = switches (last_at (take used lasts) o) p.hypothesis in
      record {
        ids_long = length-set ids _ _ ∙ n;
        lasts_long = length-set lasts _ _ ∙ m;
        flags_long = length-set switched _ _ ∙ f;
        few = (let z = v.0 in omega arith);
        ids_kept = v.2 ∙ drop_more ids t.ids used _ (grows o used) g.ids_kept;
        lasts_kept = w.1 ∙ drop_more lasts t.lasts used _ (grows o used) g.lasts_kept;
        flags_kept = drop-set-lt (i + 1) switched i b (omega arith) ∙ drop_more switched none i (i + 1) (omega arith) g.flags_kept;
        table = ap (λ (x : Table). match_all x (drop (i + 1) ps)) tt' ∙ next_table;
        flags =
            (λ j. (ap (λ (x : ℕ). take x (set switched i b)) (add-one i) ∙ take-suc-set switched i b (omega arith)) j ++ switches_of (tt' j) (drop (i + 1) ps))
            ∙ (append_assoc (take i switched) (b ∷ []) (switches_of (match_one (front ids lasts used) p) (drop (i + 1) ps)) ∙ next_flags);
      }

  pub books : (id to : ℤ) (x : Lookup) (at used' : ℕ) (b : Bool) → i < 64 → id ≡ p.truth → to ≡ p.hypothesis → x ≡ seek_of (take used ids) id → at ≡ place_of x used
      → used' ≡ used_with x used → b ≡ switches (last_in x (get_or lasts at nobody)) to → at < 256
      → Booking t ps (set ids at id) (set lasts at (last_is to)) used' (set switched i b) (i + 1)
  books id to x at used' b h e f q a u s r =
      let x_is : x ≡ o = q ∙ ap (seek_of (take used ids)) e in
      let at_is : at ≡ place_of o used = a ∙ ap (λ (y : Lookup). place_of y used) x_is in
      let used_is : used' ≡ used_with o used = u ∙ ap (λ (y : Lookup). used_with y used) x_is in
      let n = g.ids_long in
      let k = g.few in
      let r' : place_of o used < 256 = rw at_is at r in
      let w = by_lookup ids lasts used p (omega arith) (g.lasts_long ∙ sym n) o refl (omega arith) in
      let b_is : b ≡ switches (last_at (take used lasts) o) p.hypothesis =
      s ∙ ((λ j. switches (last_in (x_is j) (get_or lasts (at_is j) nobody)) (f j)) ∙ ap (λ (y : Option ℤ). switches y p.hypothesis) w.2) in
      rw (b_is, at_is, used_is, e, f) (books_at h r')

  pub fills : (id : ℤ) (x : Lookup) (at : ℕ) → id ≡ p.truth → x ≡ seek_of (take used ids) id → at ≡ place_of x used → 256 ≤ at
      → record { full = true; truths = t; switched = none } ≡ booked_of t ps
  unfolding booked_of
  fills id x at e q a r =
      let n = g.ids_long in
      let k = g.few in
      let at_is : at ≡ place_of o used = a ∙ ap (λ (y : Lookup). place_of y used) (q ∙ ap (seek_of (take used ids)) e) in
      let r' : 256 ≤ place_of o used = rw at_is at r in
      let f = full_run ids used p.truth (omega arith) (omega arith) in
      let l : length (match_one (front ids lasts used) p).ids ≡ length ids + 1 =
      ap length (ids_at (front ids lasts used) p o ∙ f.1) ∙ length-append ids (p.truth ∷ []) in
      let m : length (match_one (front ids lasts used) p).ids ≤ length (match_all (table_of t) ps).ids =
      subst (λ (u : Table). length (match_one (front ids lasts used) p).ids ≤ length u.ids) next_table (all_long (match_one (front ids lasts used) p) (drop (i + 1) ps)) in
      sym (rw (lt-ltb 256 (length (match_all (table_of t) ps).ids) (omega arith)))

pub ends : (t : Truths) (ps : List Pair) (ids : List ℤ) (lasts : List (Option ℤ)) (used : ℕ) (switched : List Bool) (i : ℕ) → Booking t ps ids lasts used switched i
    → i ≡ length ps → i ≤ 64 → record { full = false; truths = record { ids = ids; lasts = lasts; used = used }; switched = switched } ≡ booked_of t ps
unfolding booked_of match_all switches_of
ends t ps ids lasts used switched i g e h =
    let n = g.ids_long in
    let m = g.lasts_long in
    let f = g.flags_long in
    let k = g.few in
    let le : length ps ≤ i = omega arith in
    let z : drop i ps ≡ [] = drop_of_length-le ps le in
    let a : front ids lasts used ≡ match_all (table_of t) ps = rw z at g.table in
    let b : take i switched ≡ switches_of (table_of t) ps = sym (append-nil (take i switched)) ∙ (rw z at g.flags) in
    let u = length-take-le used ids (omega arith) in
    let v = length-take-le used lasts (omega arith) in
    let w = length-take-le i switched (omega arith) in
    let few = le-ltb 256 (length (take used ids)) (omega arith) in
    (λ j.
    record {
      full = false;
      truths = record { ids = over_front ids t.ids used (omega arith) g.ids_kept j; lasts = over_front lasts t.lasts used (omega arith) g.lasts_kept j; used = sym u j };
      switched = over_front switched none i (omega arith) g.flags_kept j;
    })
    ∙ (sym (rw few) ∙ (λ j. booked_with t (a j) (b j)))

-- ---- the pair at i
pub pair_is : (truths hypotheses : List ℤ) (pairs : List ℕ) (i : ℕ) → i < length pairs
    → let ps = pairs_of truths hypotheses pairs in drop i ps ≡ pair_at truths hypotheses (get_or pairs i 0) ∷ drop (i + 1) ps
pair_is truths hypotheses pairs i h =
    let f = pair_at truths hypotheses in
    let l = length-map pairs f in
    rw (add-one i) (drop-cons (map f pairs) i (f 0) (omega arith) ∙ ap (λ (p : Pair). p ∷ drop (suc i) (map f pairs)) (get_or-map f pairs i 0))
