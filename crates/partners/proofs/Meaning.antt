-- What the booked pairs mean: the table's ids are those seen, in order; a pair is a switch exactly where the last partner of its truth
-- id, as the pairs before it left it, is another; and a sound table stays sound. Assumes nothing.
use mathlib.Core.Path.{◌≡◌, refl, sym, ap, ◌∙◌}
use mathlib.Core.Bool.{Bool, true, false, cond, true≢false}
use mathlib.Core.List.{List, [], ◌∷◌, map}
use Prim.Native.Nat.{ℕ, zero, suc, ◌<◌, ◌≤◌}
use native.Mathlib.Nat.{not-suc-le-zero, le_of_suc-le-suc}
use native.Mathlib.Omega.{arith}
use borrow.Author.Tests.{ltb-false, le-leb}
use lib.Dec.{ltb, leb}
use lib.IntN.{ℤ, pos}
use lib.ListN.{length, take, drop, get_or, length-append, length-set}
use lib.Seq.{take-append_seam}
use Rattle.counts.proofs.Tests.{both}
use Rattle.ids.specs.declared.Lookup.{Lookup}
use Rattle.ids.specs.declared.Lookup.TheVariants.{At, Absent}
use Rattle.ids.specs.Ids.{seek_of, distinct_of}
use Rattle.slots.specs.Slots.{switches}
use Rattle.seen.specs.Seen.{seen_all}
use Rattle.seen.proofs.Distinct.{all_once}
use Rattle.partners.specs.declared.Truths.{Truths}
use Rattle.partners.specs.Partners.{Booked, SeenTruths, last_is, Pair, Table, last_of, match_at, match_one, match_all, switches_of, table_of, with_table, seen_table, seen_truths, booked_of, ids_sound, truths_sound}
use Rattle.partners.proofs.Turns.{ids_at}

abbrev pub truth_of : Pair → ℤ
truth_of p = p.truth

-- what stands past the end of a list of pairs; nothing turns on it
abbrev pub no_pair : Pair
no_pair = record { truth = pos 0; hypothesis = pos 0 }

-- THE IDS ARE THOSE SEEN: none twice, and no more than the frame's matched ones are new
pub ids_are : (t : Table) (ps : List Pair) → (match_all t ps).ids ≡ seen_all t.ids (map truth_of ps)
unfolding match_all seen_all
ids_are t [] = refl
ids_are t (p ∷ ps) =
    ids_are (match_one t p) ps ∙ ap (λ (l : List ℤ). seen_all l (map truth_of ps)) (ids_at t p (seek_of t.ids p.truth))

pub ids_once : (t : Table) (ps : List Pair) → distinct_of t.ids ≡ true → distinct_of (match_all t ps).ids ≡ true
ids_once t ps d = ap distinct_of (ids_are t ps) ∙ all_once t.ids (map truth_of ps) d

-- as many partners as ids
one_aligned : (t : Table) (p : Pair) (o : Lookup) → length t.lasts ≡ length t.ids → length (match_at t p o).lasts ≡ length (match_at t p o).ids
unfolding match_at
one_aligned t p (At k) e = length-set t.lasts k (last_is p.hypothesis) ∙ e
one_aligned t p Absent e =
    let a = length-append t.lasts (last_is p.hypothesis ∷ []) in
    let b = length-append t.ids (p.truth ∷ []) in
    omega arith

pub aligned : (t : Table) (ps : List Pair) → length t.lasts ≡ length t.ids → length (match_all t ps).lasts ≡ length (match_all t ps).ids
unfolding match_all
aligned t [] e = e
aligned t (p ∷ ps) e = aligned (match_one t p) ps (one_aligned t p (seek_of t.ids p.truth) e)

-- A SWITCH IS NAMED BY THE LAST PARTNER
pub switch_at : (t : Table) (ps : List Pair) (i : ℕ) → i < length ps
    → let p = get_or ps i no_pair in get_or (switches_of t ps) i false ≡ switches (last_of (match_all t (take i ps)) p.truth) p.hypothesis
unfolding switches_of match_all
switch_at t [] i h = absurd (not-suc-le-zero h)
switch_at t (p ∷ ps) zero h = refl
switch_at t (p ∷ ps) (suc i) h = switch_at (match_one t p) ps i (le_of_suc-le-suc h)

pub flags_long : (t : Table) (ps : List Pair) → length (switches_of t ps) ≡ length ps
unfolding switches_of
flags_long t [] = refl
flags_long t (p ∷ ps) = ap suc (flags_long (match_one t p) ps)

-- ---- the truth ids of a frame, seen
few_when : (b : Bool) (x y : SeenTruths) (n : ℕ) → n ≡ y.truths.used → x.full ≡ true → ltb 256 n ≡ b → (cond b x y).full ≡ false → (cond b x y).truths.used ≤ 256
few_when true x y n u e q f = absurd (true≢false (sym e ∙ f))
few_when false x y n u e q f = rw (← u) (ltb-false 256 n q)

pub seen_few : (t : Truths) (ids : List ℤ) → (seen_truths t ids).full ≡ false → (seen_truths t ids).truths.used ≤ 256
unfolding seen_truths
seen_few t ids f =
    let l = seen_all (table_of t).ids ids in
    few_when (ltb 256 (length l)) (record { full = true; truths = t }) (record { full = false; truths = with_table t (seen_table (table_of t) l) }) (length l) refl refl refl f

-- ---- A SOUND TABLE STAYS SOUND, full or not
pub table_once : (t : Truths) → truths_sound t ≡ true → distinct_of (table_of t).ids ≡ true
unfolding ids_sound
table_once t s = (both (leb t.used 256) (distinct_of (table_of t).ids) s).1

kept_sound : (b : Bool) (t : Truths) (u : Table) → ltb 256 (length u.ids) ≡ b → truths_sound t ≡ true → distinct_of u.ids ≡ true
    → truths_sound (cond b t (with_table t u)) ≡ true
unfolding ids_sound
kept_sound true t u e s d = s
kept_sound false t u e s d =
    rw (le-leb (length u.ids) 256 (ltb-false 256 (length u.ids) e), take-append_seam u.ids (drop (length u.ids) t.ids)) d

pick_truths : (b : Bool) (x y : SeenTruths) → (cond b x y).truths ≡ cond b x.truths y.truths
pick_truths true x y = refl
pick_truths false x y = refl

pick_booked : (b : Bool) (x y : Booked) → (cond b x y).truths ≡ cond b x.truths y.truths
pick_booked true x y = refl
pick_booked false x y = refl

pub seen_sound : (t : Truths) (ids : List ℤ) → truths_sound t ≡ true → truths_sound (seen_truths t ids).truths ≡ true
unfolding seen_truths
seen_sound t ids s =
    let l = seen_all (table_of t).ids ids in
    ap truths_sound (pick_truths (ltb 256 (length l)) _ _)
    ∙ kept_sound (ltb 256 (length l)) t (seen_table (table_of t) l) refl s (all_once (table_of t).ids ids (table_once t s))

pub booked_sound : (t : Truths) (ps : List Pair) → truths_sound t ≡ true → truths_sound (booked_of t ps).truths ≡ true
unfolding booked_of
booked_sound t ps s =
    let u = match_all (table_of t) ps in
    ap truths_sound (pick_booked (ltb 256 (length u.ids)) _ _)
    ∙ kept_sound (ltb 256 (length u.ids)) t u refl s (ids_once (table_of t) ps (table_once t s))
