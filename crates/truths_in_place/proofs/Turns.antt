-- One turn of the booking of pairs in a run: the table that it stands for is booked as the definition says, and every number too.
-- Assumes nothing.
use Rattle.std.specs.Prelude.{Option}
use mathlib.Core.Path.{◌≡◌, refl, sym, ap, ◌∙◌, subst}
use mathlib.Core.Bool.{Bool, true, false, true≢false}
use mathlib.Core.List.{List, [], ◌∷◌}
use Prim.Native.Nat.{ℕ, ◌<◌, ◌≤◌, ◌+◌}
use native.Mathlib.Omega.{arith}
use borrow.Author.Tests.{ltb-true, ltb-false}
use lib.Dec.{ltb}
use lib.IntN.{ℤ, pos}
use lib.ListN.{length, take, drop, set, get_or, drop_of_length-le}
use lib.Seq.{length-take-le, take-take}
use Rattle.columns.specs.Columns.{put_all}
use Rattle.ids.specs.declared.Lookup.{Lookup}
use Rattle.ids.specs.Ids.{seek_of}
use Rattle.slots.specs.Slots.{switches}
use Rattle.seen.specs.Seen.{place_of, used_with}
use Rattle.partners.specs.Partners.{Booked, nobody, Pair, last_in, none, booked_of}
use Rattle.partners.proofs.Turns as partners
use Rattle.truths_in_place.specs.Table.{last_from, last_at, truths_in, pairs_put, MatchesBooked}
use Rattle.truths_in_place.proofs.Places.{lasts_in, lasts_long, last_at_lem, put_long, put_id, put_last}

pub record Booking (table₀ : List ℤ) (used₀ : ℕ) (ps : List Pair) (table : List ℤ) (used : ℕ) (switched : List Bool) (i : ℕ) : Type 0 where
  pub long : length table ≡ 768
  pub booked : partners.Booking (truths_in table₀ used₀) ps (take 256 table) (lasts_in table) used switched i
  pub numbers : pairs_put table used (drop i ps) ≡ pairs_put table₀ used₀ ps

pub begins : (table : List ℤ) (used : ℕ) (ps : List Pair) → length table ≡ 768 → used ≤ 256 → Booking table used ps table used none 0
begins table used ps l h =
    record { long = l; booked = partners.begins (truths_in table used) ps (length-take-le 256 table (omega arith)) (lasts_long table) h; numbers = refl }

module _ (table₀ : List ℤ) (used₀ : ℕ) (ps : List Pair) (table : List ℤ) (used : ℕ) (switched : List Bool) (i : ℕ) (g : Booking table₀ used₀ ps table used switched i)
    (p : Pair) (d : drop i ps ≡ p ∷ drop (i + 1) ps) (id : ℤ) (eid : id ≡ p.truth) (x : Lookup) (ex : x ≡ seek_of (take used table) id) (at : ℕ) (eat : at ≡ place_of x used) where
  looked : x ≡ seek_of (take used (take 256 table)) id
  looked = ex ∙ ap (λ (l : List ℤ). seek_of l id) (sym (take-take used 256 table g.booked.few))

  -- ---- there is a place
  by_test : (booked_of (truths_in table₀ used₀) ps).full ≡ false → (b : Bool) → ltb at 256 ≡ b → at < 256
  by_test f true e = ltb-true at 256 e
  by_test f false e =
      absurd (true≢false (ap (λ (r : Booked). r.full)
      (partners.fills (truths_in table₀ used₀) ps (take 256 table) (lasts_in table) used switched i g.booked p d id x at eid looked eat (ltb-false at 256 e)) ∙ f))

  pub has_place : (booked_of (truths_in table₀ used₀) ps).full ≡ false → at < 256
  has_place f = by_test f (ltb at 256) refl

  -- ---- what stands there
  stands : at < 256 → get_or (lasts_in table) at nobody ≡ last_from (get_or table (at + 256) (pos 0)) (get_or table (at + 256 + 256) (pos 0))
  unfolding last_at
  stands h = last_at_lem table at h

  next_numbers : (to : ℤ) (used' : ℕ) → to ≡ p.hypothesis → used' ≡ used_with x used
      → pairs_put (put_all table 256 at (id ∷ (pos 1 ∷ (to ∷ [])))) used' (drop (i + 1) ps) ≡ pairs_put table₀ used₀ ps
  unfolding pairs_put
  next_numbers to used' eto eu =
      let o : x ≡ seek_of (take used table) p.truth = ex ∙ ap (seek_of (take used table)) eid in
      (λ j. pairs_put (put_all table 256 ((eat ∙ ap (λ (y : Lookup). place_of y used) o) j) (eid j ∷ (pos 1 ∷ (eto j ∷ [])))) ((eu ∙ ap (λ (y : Lookup). used_with y used) o) j) (drop (i + 1) ps))
      ∙ (ap (pairs_put table used) (sym d) ∙ g.numbers)

  pub books : (to known partner : ℤ) (used' : ℕ) (b : Bool) → i < 64 → to ≡ p.hypothesis → used' ≡ used_with x used → known ≡ get_or table (at + 256) (pos 0) → partner ≡ get_or table (at + 256 + 256) (pos 0)
      → b ≡ switches (last_in x (last_from known partner)) to → at < 256
      → (after : List ℤ) → after ≡ put_all table 256 at (id ∷ (pos 1 ∷ (to ∷ []))) → Booking table₀ used₀ ps after used' (set switched i b) (i + 1)
  books to known partner used' b h eto eu ek ep eb r after ea =
      let l = g.long in
      let flag : b ≡ switches (last_in x (get_or (lasts_in table) at nobody)) to = eb ∙ ((λ j. switches (last_in x (last_from (ek j) (ep j))) to) ∙ ap (λ (y : Option ℤ). switches (last_in x y) to) (sym (stands r))) in
      let next = partners.books (truths_in table₀ used₀) ps (take 256 table) (lasts_in table) used switched i g.booked p d id to x at used' b h eid eto looked eat eu flag r in
      rw ea (record {
        long = put_long table l at r id (pos 1) to;
        booked =
            subst (λ (ids : List ℤ). partners.Booking (truths_in table₀ used₀) ps ids (lasts_in (put_all table 256 at (id ∷ (pos 1 ∷ (to ∷ []))))) used' (set switched i b) (i + 1)) (sym (put_id table l at r id (pos 1) to))
            (subst (λ (lasts : List (Option ℤ)). partners.Booking (truths_in table₀ used₀) ps (set (take 256 table) at id) lasts used' (set switched i b) (i + 1)) (sym (put_last table l at r id (pos 1) to)) next);
        numbers = next_numbers to used' eto eu;
      })

pub ends : (table₀ : List ℤ) (used₀ : ℕ) (ps : List Pair) (table : List ℤ) (used : ℕ) (switched : List Bool) (i : ℕ) → Booking table₀ used₀ ps table used switched i
    → i ≡ length ps → i ≤ 64 → MatchesBooked table₀ used₀ ps table (record { used = used; switched = switched })
unfolding pairs_put
ends table₀ used₀ ps table used switched i g e h =
    let q = partners.ends (truths_in table₀ used₀) ps (take 256 table) (lasts_in table) used switched i g.booked e h in
    let le : length ps ≤ i = omega arith in
    let z : drop i ps ≡ [] = drop_of_length-le ps le in
    record {
      truths = ap (λ (b : Booked). b.truths) q;
      switched = ap (λ (b : Booked). b.switched) q;
      numbers = rw z at g.numbers;
    }
