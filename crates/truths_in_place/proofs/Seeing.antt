-- The truth ids of a frame, seen in a run: the table that it stands for is the definition's. Assumes nothing.
use Rattle.std.specs.Prelude.{Option}
use mathlib.Core.Path.{◌≡◌, refl, sym, ap, ◌∙◌}
use mathlib.Core.Bool.{Bool, true, false}
use mathlib.Core.List.{List, ◌++◌}
use Prim.Native.Nat.{ℕ, ◌<◌, ◌≤◌, ◌+◌, ◌-◌}
use native.Mathlib.Omega.{arith}
use borrow.Author.Tests.{ltb-true, ltb-false, le-ltb}
use lib.Dec.{ltb}
use lib.IntN.{ℤ, pos}
use lib.ListN.{length, take, drop, get_or, replicate}
use lib.Seq.{ext_get_or, length-take-le, take-take}
use Rattle.seen.specs.Seen.{Seen, over, seen_all, seen_of, run_after}
use Rattle.seen.proofs.Growth.{all_long, says_fits}
use Rattle.partners.specs.Partners.{nobody, table_of, with_table, seen_table, seen_truths}
use Rattle.truths_in_place.specs.Table.{last_from, last_at, truths_in, seen_put, TruthsSeen}
use Rattle.id_runs.specs.Runs.{cleared}
use Rattle.truths_in_place.proofs.Places.{lasts_in, lasts_long, last_at_lem}
use Rattle.truths_in_place.proofs.Filling.{over_long, over_past, over_part, take-over, filled_long, take_before, at_before, at_between, at_after}
use Rattle.truths_in_place.proofs.Room.{ids_in_use, truths_few, not_full}

module _ (table : List ℤ) (long : length table ≡ 768) (used : ℕ) (l : List ℤ) (h : used ≤ length l) (m : length l ≤ 256) where
  abbrev first : List ℤ
  first = over l table

  first_long : length first ≡ 768
  first_long = over_long l table (omega arith) ∙ long

  abbrev second : List ℤ
  second = cleared first (256 + used) (256 + length l)

  second_long : length second ≡ 768
  second_long = let f = first_long in filled_long (pos 0) first (256 + used) (256 + length l) (omega arith) (omega arith) ∙ f

  abbrev third : List ℤ
  third = cleared second (512 + used) (512 + length l)

  third_ids : take 256 third ≡ over l (take 256 table)
  third_ids =
      let f = first_long in
      let s = second_long in
      take_before (pos 0) second (512 + used) (512 + length l) (omega arith) (omega arith) 256 (omega arith)
      ∙ (take_before (pos 0) first (256 + used) (256 + length l) (omega arith) (omega arith) 256 (omega arith) ∙ take-over l table 256 m (omega arith))

  -- ---- the two numbers beside place k
  module _ (k : ℕ) (i : k < 256) where
    known_kept : (b : ℕ) → b ≡ k + 256 → (k < used) → get_or third b (pos 0) ≡ get_or table b (pos 0)
    known_kept b e q =
        let f = first_long in
        let s = second_long in
        at_before (pos 0) second (512 + used) (512 + length l) (omega arith) (omega arith) b (pos 0) (omega arith)
        ∙ (at_before (pos 0) first (256 + used) (256 + length l) (omega arith) (omega arith) b (pos 0) (omega arith) ∙ over_past l table b (pos 0) (omega arith))

    known_new : (b : ℕ) → b ≡ k + 256 → used ≤ k → k < length l → get_or third b (pos 0) ≡ pos 0
    known_new b e p q =
        let f = first_long in
        let s = second_long in
        at_before (pos 0) second (512 + used) (512 + length l) (omega arith) (omega arith) b (pos 0) (omega arith)
        ∙ at_between (pos 0) first (256 + used) (256 + length l) (omega arith) (omega arith) b (pos 0) (omega arith) (omega arith)

    known_past : (b : ℕ) → b ≡ k + 256 → length l ≤ k → get_or third b (pos 0) ≡ get_or table b (pos 0)
    known_past b e p =
        let f = first_long in
        let s = second_long in
        at_before (pos 0) second (512 + used) (512 + length l) (omega arith) (omega arith) b (pos 0) (omega arith)
        ∙ (at_after (pos 0) first (256 + used) (256 + length l) (omega arith) (omega arith) b (pos 0) (omega arith) ∙ over_past l table b (pos 0) (omega arith))

    -- in the third column nothing stands in the way of the second's
    under : (c : ℕ) → c ≡ k + 256 + 256 → get_or second c (pos 0) ≡ get_or table c (pos 0)
    under c e =
        let f = first_long in
        at_after (pos 0) first (256 + used) (256 + length l) (omega arith) (omega arith) c (pos 0) (omega arith) ∙ over_past l table c (pos 0) (omega arith)

    partner_kept : (c : ℕ) → c ≡ k + 256 + 256 → (k < used) → get_or third c (pos 0) ≡ get_or table c (pos 0)
    partner_kept c e q = let s = second_long in at_before (pos 0) second (512 + used) (512 + length l) (omega arith) (omega arith) c (pos 0) (omega arith) ∙ under c e

    partner_new : (c : ℕ) → c ≡ k + 256 + 256 → used ≤ k → k < length l → get_or third c (pos 0) ≡ pos 0
    partner_new c e p q = let s = second_long in at_between (pos 0) second (512 + used) (512 + length l) (omega arith) (omega arith) c (pos 0) (omega arith) (omega arith)

    partner_past : (c : ℕ) → c ≡ k + 256 + 256 → length l ≤ k → get_or third c (pos 0) ≡ get_or table c (pos 0)
    partner_past c e p = let s = second_long in at_after (pos 0) second (512 + used) (512 + length l) (omega arith) (omega arith) c (pos 0) (omega arith) ∙ under c e

    last_kept : k < used → last_at third k ≡ last_at table k
    unfolding last_at
    last_kept q = λ j. last_from (known_kept (k + 256) refl q j) (partner_kept (k + 256 + 256) refl q j)

    last_new : used ≤ k → k < length l → last_at third k ≡ nobody
    unfolding last_at
    last_new p q = λ j. last_from (known_new (k + 256) refl p q j) (partner_new (k + 256 + 256) refl p q j)

    last_past : length l ≤ k → last_at third k ≡ last_at table k
    unfolding last_at
    last_past p = λ j. last_from (known_past (k + 256) refl p j) (partner_past (k + 256 + 256) refl p j)

  -- ---- the partners
  abbrev lasts : List (Option ℤ)
  lasts = over (take used (lasts_in table) ++ replicate (length l - used) nobody) (lasts_in table)

  room : length l ≤ length (lasts_in table)
  room = let n = lasts_long table in omega arith

  by_place : (k : ℕ) → k < 256 → (b c : Bool) → ltb k used ≡ b → ltb k (length l) ≡ c → get_or (lasts_in third) k nobody ≡ get_or lasts k nobody
  by_place k i true c e f =
      let q = ltb-true k used e in
      last_at_lem third k i ∙ (last_kept k i q ∙ (sym (last_at_lem table k i) ∙ sym (at_before nobody (lasts_in table) used (length l) h room k nobody q)))
  by_place k i false true e f =
      let p = ltb-false k used e in
      let q = ltb-true k (length l) f in
      last_at_lem third k i ∙ (last_new k i p q ∙ sym (at_between nobody (lasts_in table) used (length l) h room k nobody p q))
  by_place k i false false e f =
      let q = ltb-false k (length l) f in
      last_at_lem third k i ∙ (last_past k i q ∙ (sym (last_at_lem table k i) ∙ sym (at_after nobody (lasts_in table) used (length l) h room k nobody q)))

  third-lasts : lasts_in third ≡ lasts
  third-lasts =
      let n = lasts_long third in
      ext_get_or nobody (lasts_in third) lasts (n ∙ sym (filled_long nobody (lasts_in table) used (length l) h room ∙ lasts_long table))
      (λ (k : ℕ) (q : k < length (lasts_in third)). by_place k (omega arith) (ltb k used) (ltb k (length l)) refl refl)

  pub seen_is : truths_in (seen_put table used l) (length l) ≡ with_table (truths_in table used) (seen_table (table_of (truths_in table used)) l)
  unfolding seen_put
  seen_is =
      let u : length (table_of (truths_in table used)).ids ≡ used = ap length (ids_in_use table used (omega arith)) ∙ length-take-le used table (omega arith) in
      λ j. record {
        ids = third_ids j;
        lasts = (third-lasts ∙ ap (λ (z : ℕ). over (take used (lasts_in table) ++ replicate (length l - z) nobody) (lasts_in table)) (sym u)) j;
        used = length l;
      }

-- ---- the run, step by step
pub room_left : (table : List ℤ) (used : ℕ) (ids : List ℤ) → length table ≡ 768 → used ≤ 256 → (seen_truths (truths_in table used) ids).full ≡ false
    → ltb (length (take 256 table)) (length (seen_all (take used (take 256 table)) ids)) ≡ false
room_left table used ids long h f =
    let n : length (take 256 table) ≡ 256 = length-take-le 256 table (omega arith) in
    (λ j. ltb (n j) (length (seen_all (take-take used 256 table h j) ids))) ∙ le-ltb 256 (length (seen_all (take used table) ids)) (truths_few table used h ids f)

module _ (table : List ℤ) (long : length table ≡ 768) (used : ℕ) (h : used ≤ 256) (ids : List ℤ) (f : (seen_truths (truths_in table used) ids).full ≡ false)
    (s : Seen) (front : List ℤ) (es : s ≡ seen_of (length (take 256 table)) (seen_all (take used (take 256 table)) ids))
    (ef : front ≡ run_after (take 256 table) (seen_all (take used (take 256 table)) ids)) where
  abbrev seen : List ℤ
  seen = seen_all (take used table) ids

  seen_as : seen_all (take used (take 256 table)) ids ≡ seen
  seen_as = ap (λ (l : List ℤ). seen_all l ids) (take-take used 256 table h)

  first_size : length (take 256 table) ≡ 256
  first_size = length-take-le 256 table (omega arith)

  pub few : length seen ≤ 256
  few = truths_few table used h ids f

  pub grown : used ≤ length seen
  grown = let a = all_long (take used table) ids in let b = length-take-le used table (omega arith) in omega arith

  told : (s.used ≡ length seen) × (front ≡ over seen (take 256 table))
  told =
      let q : s ≡ seen_of (length (take 256 table)) seen = es ∙ ap (seen_of (length (take 256 table))) seen_as in
      let n : ltb (length (take 256 table)) (length seen) ≡ false = ap (λ (k : ℕ). ltb k (length seen)) first_size ∙ le-ltb 256 (length seen) few in
      let g = says_fits (take 256 table) seen s q (not_full (length (take 256 table)) seen s q n) in
      (g.1, ef ∙ (ap (run_after (take 256 table)) seen_as ∙ g.2))

  pub counted : s.used ≡ length seen
  counted = told.0

  pub first_is : front ++ drop 256 table ≡ over seen table
  first_is = ap (λ (x : List ℤ). x ++ drop 256 table) told.1 ∙ over_part seen table 256 few (omega arith)

  pub first_room : length (front ++ drop 256 table) ≡ 768
  first_room = ap length first_is ∙ first_long table long used seen grown few

  module _ (middle : List ℤ) (em : middle ≡ cleared (front ++ drop 256 table) (256 + used) (256 + s.used)) where
    middle_is : middle ≡ cleared (over seen table) (256 + used) (256 + length seen)
    middle_is = em ∙ (λ j. cleared (first_is j) (256 + used) (256 + counted j))

    pub middle_room : length middle ≡ 768
    middle_room = ap length middle_is ∙ second_long table long used seen grown few

    pub seen_whole : (after : List ℤ) → after ≡ cleared middle (512 + used) (512 + s.used) → TruthsSeen table used ids after s.used
    unfolding seen_put seen_truths
    seen_whole after ea =
        let n : after ≡ seen_put table used seen = ea ∙ (λ j. cleared (middle_is j) (512 + used) (512 + counted j)) in
        let t = truths_in table used in
        let w : ltb 256 (length (seen_all (table_of t).ids ids)) ≡ false = ap (λ (l : List ℤ). ltb 256 (length l)) seen_as ∙ le-ltb 256 (length seen) few in
        record {
          truths =
              (λ j. truths_in (n j) (counted j))
              ∙ (seen_is table long used seen grown few
              ∙ (ap (λ (l : List ℤ). with_table t (seen_table (table_of t) l)) (sym seen_as) ∙ sym (rw w refl)));
          count = counted;
          numbers = n;
        }
