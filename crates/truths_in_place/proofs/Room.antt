-- Whether there is room, as the definitions of a frame's ids say it. Assumes nothing.
use Rattle.std.specs.Prelude.{Option, None, Some, is_some}
use mathlib.Core.Path.{◌≡◌, refl, sym, ap, ◌∙◌}
use mathlib.Core.Bool.{Bool, true, false, cond, not, true≢false}
use mathlib.Core.List.{List, map-map}
use Prim.Native.Nat.{ℕ, ◌≤◌}
use borrow.Author.Tests.{ltb-false}
use lib.Dec.{ltb}
use lib.IntN.{ℤ}
use lib.ListN.{length, take}
use lib.Seq.{take-take}
use Rattle.seen.specs.Seen.{Seen, SeenHypotheses, places_seen, seen_all, seen_of, run_after, hypotheses_of, seen_hypotheses}
use Rattle.seen.proofs.Growth.{says_fits}
use Rattle.partners.specs.declared.Truths.{Truths}
use Rattle.partners.specs.Partners.{Booked, SeenTruths, Pair, pair_at, pairs_of, table_of, match_all, none, seen_truths, booked_of}
use Rattle.partners.proofs.Meaning.{truth_of, ids_are}
use Rattle.truths_in_place.specs.Table.{truths_in}
use Rattle.id_runs.specs.Runs.{fit_in, row_ids_of}

-- ---- what a choice says
pick_seen : (b : Bool) (x y : SeenTruths) → x.full ≡ true → y.full ≡ false → (cond b x y).full ≡ b
pick_seen true x y e f = e
pick_seen false x y e f = f

pick_hypotheses : (b : Bool) (x y : SeenHypotheses) → x.full ≡ true → y.full ≡ false → (cond b x y).full ≡ b
pick_hypotheses true x y e f = e
pick_hypotheses false x y e f = f

pick_booked : (b : Bool) (x y : Booked) → x.full ≡ true → y.full ≡ false → (cond b x y).full ≡ b
pick_booked true x y e f = e
pick_booked false x y e f = f

-- a booked table has no more ids than places
few_by : (b : Bool) (x y : Booked) → x.truths.used ≤ 256 → (b ≡ false → y.truths.used ≤ 256) → (cond b x y).truths.used ≤ 256
few_by true x y h f = h
few_by false x y h f = f refl

pub booked_few : (t : Truths) (ps : List Pair) → t.used ≤ 256 → (booked_of t ps).truths.used ≤ 256
unfolding booked_of
booked_few t ps h =
    let n = length (match_all (table_of t) ps).ids in
    few_by (ltb 256 n) (record { full = true; truths = t; switched = none }) _ h (λ (e : ltb 256 n ≡ false). ltb-false 256 n e)

-- ---- the truth ids
module _ (table : List ℤ) (used : ℕ) (h : used ≤ 256) where
  -- the ids in use are the front of the run
  pub ids_in_use : (table_of (truths_in table used)).ids ≡ take used table
  ids_in_use = take-take used 256 table h

  pub truths_full : (ids : List ℤ) → (seen_truths (truths_in table used) ids).full ≡ ltb 256 (length (seen_all (take used table) ids))
  unfolding seen_truths
  truths_full ids =
      pick_seen (ltb 256 (length (seen_all (table_of (truths_in table used)).ids ids))) _ _ refl refl
      ∙ ap (λ (l : List ℤ). ltb 256 (length (seen_all l ids))) ids_in_use

  pub truths_told : (ids : List ℤ) → fit_in 256 (take used table) ids ≡ not (seen_truths (truths_in table used) ids).full
  truths_told ids = ap not (sym (truths_full ids))

  pub truths_few : (ids : List ℤ) → (seen_truths (truths_in table used) ids).full ≡ false → length (seen_all (take used table) ids) ≤ 256
  truths_few ids f = ltb-false 256 (length (seen_all (take used table) ids)) (sym (truths_full ids) ∙ f)

  -- ---- the pairs
  pub matches_told : (truths hypotheses : List ℤ) (ks : List ℕ)
      → fit_in 256 (take used table) (row_ids_of truths (length hypotheses) ks) ≡ not (booked_of (truths_in table used) (pairs_of truths hypotheses ks)).full
  unfolding booked_of
  matches_told truths hypotheses ks =
      let t = table_of (truths_in table used) in
      let ps = pairs_of truths hypotheses ks in
      ap not (sym (pick_booked (ltb 256 (length (match_all t ps).ids)) _ _ refl refl
      ∙ ap (λ (l : List ℤ). ltb 256 (length l))
      (ids_are t ps ∙ (λ j. seen_all (ids_in_use j) (map-map truth_of (pair_at truths hypotheses) ks j)))))

-- ---- the hypotheses
module _ (run : List ℤ) (used : ℕ) (ids : List ℤ) where
  pub hypotheses_full : (seen_hypotheses (hypotheses_of run used) ids).full ≡ ltb 1024 (length (seen_all (take used run) ids))
  unfolding seen_hypotheses
  hypotheses_full = pick_hypotheses (ltb 1024 (length (seen_all (take used run) ids))) _ _ refl refl

  pub hypotheses_told : fit_in 1024 (take used run) ids ≡ not (seen_hypotheses (hypotheses_of run used) ids).full
  hypotheses_told = ap not (sym hypotheses_full)

-- ---- ids seen where there is room
pub not_full : (room : ℕ) (l : List ℤ) (s : Seen) → s ≡ seen_of room l → ltb room (length l) ≡ false → s.full ≡ false
unfolding seen_of
not_full room l s e f = ap (λ (x : Seen). x.full) e ∙ f

pub none_left : (room : ℕ) (l : List ℤ) (o : Option ℕ) → places_seen room o ≡ seen_of room l → ltb room (length l) ≡ false → is_some o ≡ true
none_left room l None e f = absurd (true≢false (not_full room l (places_seen room None) e f))
none_left room l (Some n) e f = refl

-- an answer that names the places, as what was seen
pub as_seen : (room n : ℕ) (l : List ℤ) (o : Option ℕ) → o ≡ Some n → places_seen room o ≡ seen_of room l → record { used = n; full = false } ≡ seen_of room l
as_seen room n l o e s = sym (ap (places_seen room) e) ∙ s

module _ (run : List ℤ) (long : length run ≡ 1024) (used : ℕ) (ids : List ℤ) (f : (seen_hypotheses (hypotheses_of run used) ids).full ≡ false) where
  pub few : ltb 1024 (length (seen_all (take used run) ids)) ≡ false
  few = sym (hypotheses_full run used ids) ∙ f

  -- what is seen is the definition's
  pub hypotheses_seen : (s : Seen) (after : List ℤ) → s ≡ seen_of (length run) (seen_all (take used run) ids) → after ≡ run_after run (seen_all (take used run) ids)
      → hypotheses_of after s.used ≡ (seen_hypotheses (hypotheses_of run used) ids).hypotheses
  unfolding seen_hypotheses
  hypotheses_seen s after es ea =
      let l = seen_all (take used run) ids in
      let g = says_fits run l s es (not_full (length run) l s es (rw long few)) in
      rw few (λ j. hypotheses_of ((ea ∙ g.2) j) (g.1 j))
