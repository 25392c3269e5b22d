-- What an accepted frame logs and leaves: each pair has an IoU of at least the threshold and is stored with 1.0 less that; it is a
-- switch exactly where its truth id's last partner is another; and the pairs' truth ids have their places already. Assumes nothing.
use mathlib.Core.Path.{◌≡◌, refl, sym, ap, ◌∙◌}
use mathlib.Core.Bool.{Bool, true, false, cond, true≢false}
use mathlib.Core.List.{List, [], ◌∷◌, map}
use Prim.Native.Nat.{ℕ, zero, suc, ◌<◌, ◌≤◌, ◌*◌, ◌/◌, ◌%◌}
use native.Mathlib.Nat.{not-suc-le-zero, le_of_suc-le-suc}
use native.Mathlib.Omega.{arith}
use borrow.Author.Tests.{ltb-false, le-ltb}
use lib.Dec.{ltb}
use lib.IntN.{ℤ}
use lib.ListN.{length, take, get_or, length-map, get_or-map, get_or-append}
use lib.Seq.{take-append_seam, get_or-take}
use lib.Ieee.{Float, nan, binary64, sub, le}
use Rattle.floats.specs.Float.{one64}
use Rattle.square.specs.Index.{on}
use Rattle.sorting.specs.Order.{key_of}
use Rattle.sorting.specs.Sort.{fall_of}
use Rattle.sorting.proofs.Permutes.{each_at}
use Rattle.slots.specs.Slots.{switches}
use Rattle.seen.specs.Seen.{seen_all, over}
use Rattle.seen.specs.Holds.{Holds}
use Rattle.seen.proofs.Distinct.{all_seen, none_new}
use Rattle.partners.specs.declared.Truths.{Truths}
use Rattle.partners.specs.Partners.{SeenTruths}
use Rattle.partners.specs.Partners.{Booked}
use Rattle.partners.specs.Partners.{Pair, pair_at, pairs_of, last_of, match_all, switches_of, table_of, with_table, none, booked_of, seen_table, seen_truths}
use Rattle.partners.proofs.Meaning.{truth_of, no_pair, ids_are, switch_at, flags_long}
use Rattle.greedy.specs.declared.Pairing.{Pairing}
use Rattle.greedy.specs.Greedy.{taken_of, Fitting}
use Rattle.greedy.proofs.Taking.{row_in}
use Rattle.greedy.proofs.Pairings.{pairs_are, pairs_long}
use Rattle.greedy_pairs.specs.Pairs.{places_of, by_share}
use Rattle.greedy_pairs.proofs.Frames.{share_fits, shares_pass}
use Rattle.events.specs.Events.{no_event}
use Rattle.booking.specs.Booking.{pair_event, id_at, events_of}
use Rattle.booking.proofs.Paired.{pair_event_at}
use Rattle.metrics_update.specs.Update.{stored_of, matched_by}

-- a place of a list holds the same whatever stands past its end
past_end : {A : Type 0} (l : List A) (i : ℕ) (d e : A) → i < length l → get_or l i d ≡ get_or l i e
past_end [] i d e h = absurd (not-suc-le-zero h)
past_end (x ∷ xs) zero d e h = refl
past_end (x ∷ xs) (suc i) d e h = past_end xs i d e (le_of_suc-le-suc h)

-- ---- the pairs' truth ids are the frame's
module _ (truths hypotheses : List ℤ) (p : Pairing) (f : Fitting (length truths) (length hypotheses) p) where
  abbrev places : List ℕ
  places = take p.used p.pairs

  abbrev pub pairs : List Pair
  pairs = pairs_of truths hypotheses places

  pub pairs_count : length pairs ≡ p.used
  pairs_count = length-map places (pair_at truths hypotheses) ∙ sym (pairs_long _ _ p f)

  pub pair_is : (i : ℕ) → i < p.used → get_or pairs i no_pair ≡ pair_at truths hypotheses (get_or p.pairs i 0)
  pair_is i h =
      let n = pairs_count in
      past_end pairs i no_pair (pair_at truths hypotheses 0) (omega arith)
      ∙ (get_or-map (pair_at truths hypotheses) places i 0 ∙ ap (pair_at truths hypotheses) (get_or-take p.used p.pairs i 0 h))

  truth_in : (id : ℤ) → Holds (map truth_of pairs) id → Holds truths id
  truth_in id h =
      let n = pairs_count in
      let m = length-map pairs truth_of in
      let w = h.within in
      let i : h.place < p.used = omega arith in
      record {
        place = get_or p.pairs h.place 0 / length hypotheses;
        within = row_in _ (length truths) (length hypotheses) (f.inside h.place i);
        there = ap truth_of (sym (pair_is h.place i)) ∙ (sym (get_or-map truth_of pairs h.place no_pair) ∙ h.there);
      }

  -- SO THE PAIRS BRING NO NEW ID: refusal 5 is settled by the ids seen
  abbrev Unfilled : SeenTruths → Type 0
  Unfilled x = (booked_of x.truths pairs).full ≡ false

  same_ids : (t : Truths) → let l = seen_all (table_of t).ids truths in (table_of (with_table t (seen_table (table_of t) l))).ids ≡ l
  same_ids t = take-append_seam (seen_all (table_of t).ids truths) _

  booked_few : (t : Truths) → length (match_all (table_of t) pairs).ids ≤ 256 → (booked_of t pairs).full ≡ false
  unfolding booked_of
  booked_few t h = rw (le-ltb 256 (length (match_all (table_of t) pairs).ids) h)

  room_or : (t : Truths) (b : Bool) (x y : SeenTruths) → let l = seen_all (table_of t).ids truths in ltb 256 (length l) ≡ b → x.full ≡ true → y.truths ≡ with_table t (seen_table (table_of t) l)
      → (cond b x y).full ≡ false → Unfilled (cond b x y)
  room_or t true x y e f g h = absurd (true≢false (sym f ∙ h))
  room_or t false x y e f g h =
      let l = seen_all (table_of t).ids truths in
      let v = with_table t (seen_table (table_of t) l) in
      let n = ltb-false 256 (length l) e in
      let still : (match_all (table_of v) pairs).ids ≡ l =
      ids_are (table_of v) pairs
      ∙ (ap (λ (z : List ℤ). seen_all z (map truth_of pairs)) (same_ids t)
      ∙ none_new l (map truth_of pairs) (λ (id : ℤ) (k : Holds (map truth_of pairs) id). all_seen (table_of t).ids truths id (truth_in id k))) in
      let m = ap length still in
      rw g (booked_few v (omega arith))

  pub never_full : (t : Truths) → (seen_truths t truths).full ≡ false → (matched_by (seen_truths t truths).truths truths hypotheses p).full ≡ false
  unfolding seen_truths
  never_full t h = room_or t (ltb 256 (length (seen_all (table_of t).ids truths))) _ _ refl refl refl h

  -- ---- A SWITCH IS NAMED BY THE LAST PARTNER, as the pairs before it left it
  flag_or : (b : Bool) (x y : Booked) → x.full ≡ true → (cond b x y).full ≡ false → cond b x y ≡ y
  flag_or true x y e h = absurd (true≢false (sym e ∙ h))
  flag_or false x y e h = refl

  flags_are : (t : Truths) → (booked_of t pairs).full ≡ false → (booked_of t pairs).switched ≡ over (switches_of (table_of t) pairs) none
  unfolding booked_of
  flags_are t h = ap (λ (b : Booked). b.switched) (flag_or (ltb 256 (length (match_all (table_of t) pairs).ids)) _ _ refl h)

  pub named_by_last : (t : Truths) (i : ℕ) → (booked_of t pairs).full ≡ false → i < p.used
      → let q = pair_at truths hypotheses (get_or p.pairs i 0) in
      on (booked_of t pairs).switched i ≡ switches (last_of (match_all (table_of t) (take i pairs)) q.truth) q.hypothesis
  named_by_last t i h k =
      let n = pairs_count in
      let m = flags_long (table_of t) pairs in
      ap (λ (l : List Bool). on l i) (flags_are t h)
      ∙ (get_or-append (switches_of (table_of t) pairs) _ false i (omega arith)
      ∙ (switch_at (table_of t) pairs i (omega arith)
      ∙ ap (λ (q : Pair). switches (last_of (match_all (table_of t) (take i pairs)) q.truth) q.hypothesis) (pair_is i k)))

-- ---- WHAT IS LOGGED OF A PAIR: an IoU of at least the threshold, and 1.0 less it
module _ (frame : ℤ) (truths hypotheses : List ℤ) (shares : List Float) (threshold : Float) (n64 : length truths ≤ 64) (w64 : length hypotheses ≤ 64)
    (size : length shares ≡ length truths * length hypotheses) where
  abbrev pub paired : Pairing
  paired = by_share shares threshold (length hypotheses)

  paired_fits : Fitting (length truths) (length hypotheses) paired
  paired_fits = share_fits shares threshold (length truths) (length hypotheses) n64 w64 size

  pub pair_logged : (switched : List Bool) (i : ℕ) → i < paired.used
      → let k = get_or paired.pairs i 0 in
      get_or (events_of frame truths hypotheses (stored_of shares) paired switched) i no_event
      ≡ pair_event frame (on switched i) (id_at truths (k / length hypotheses)) (id_at hypotheses (k % length hypotheses)) (sub binary64 one64 (key_of shares k))
  pair_logged switched i h =
      let k = get_or paired.pairs i 0 in
      let j = paired_fits.inside i h in
      let m = length-map shares (sub binary64 one64) in
      pair_event_at frame truths hypotheses (stored_of shares) paired switched i h
      ∙ ap (pair_event frame (on switched i) (id_at truths (k / length hypotheses)) (id_at hypotheses (k % length hypotheses)))
      (past_end (stored_of shares) k nan (sub binary64 one64 nan) (omega arith) ∙ get_or-map (sub binary64 one64) shares k nan)

  pub pair_passes : (i : ℕ) → i < paired.used → le threshold (key_of shares (get_or paired.pairs i 0)) ≡ true
  unfolding by_share
  pair_passes i h =
      let w = length hypotheses in
      let l = fall_of shares (places_of (le threshold) shares) in
      let q = pairs_are w l in
      let e : get_or paired.pairs i 0 ≡ get_or (taken_of w l) i 0 = sym (get_or-take paired.used paired.pairs i 0 h) ∙ ap (λ (x : List ℕ). get_or x i 0) q in
      let n = ap length q in
      let m = pairs_long _ _ paired paired_fits in
      rw e (each_at (λ (k : ℕ). le threshold (key_of shares k) ≡ true) (taken_of w l) i (shares_pass shares threshold w) (omega arith))
