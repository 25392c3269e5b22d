-- What an accepted frame does: its events come after those that were, each row and each column stands in one of them, each pair has its
-- own finite distance, and it is a switch exactly where its object id's last partner is another. Assumes nothing.
use mathlib.Core.Path.{◌≡◌, refl, sym, ap, ◌∙◌, subst}
use mathlib.Core.Bool.{Bool, true, false, cond}
use mathlib.Core.List.{List, ◌++◌, map}
use Prim.Native.Nat.{ℕ, ◌+◌, ◌*◌, ◌<◌, ◌≤◌, ◌/◌, ◌%◌}
use native.Mathlib.Omega.{arith}
use borrow.Author.Tests.{ltb-false, eqb-true, eqb-false}
use lib.Dec.{ltb, eqb}
use lib.IntN.{ℤ}
use lib.ListN.{length, get_or, take, drop}
use lib.Seq.{get_or-take}
use lib.Ieee.{Float, nan}
use Rattle.floats.specs.Float.{is_finite}
use Rattle.square.specs.Index.{Once, on}
use Rattle.sorting.specs.Order.{Each, key_of}
use Rattle.sorting.specs.Sort.{sort_of}
use Rattle.sorting.proofs.Permutes.{each_at, each_still}
use Rattle.slots.specs.Slots.{switches}
use Rattle.partners.specs.Partners.{Booked}
use Rattle.partners.specs.Partners.{last_of, match_all, table_of}
use Rattle.greedy.specs.declared.Pairing.{Pairing}
use Rattle.greedy.specs.Greedy.{taken_of, Fitting}
use Rattle.greedy.proofs.Pairings.{pairs_are, pairs_long}
use Rattle.greedy_pairs.specs.Pairs.{places_of, by_distance}
use Rattle.greedy_pairs.proofs.Listing.{places_inside}
use Rattle.greedy_pairs.proofs.Frames.{distances_pass}
use Rattle.events.specs.declared.Event.{Event}
use Rattle.events.specs.Events.{logged, no_event}
use Rattle.booking.specs.Booking.{id_at, pair_event, events_of, log_after, truths_in, hypotheses_in}
use Rattle.booking.proofs.Appended.{appends, kept_after}
use Rattle.booking.proofs.Named.{named_rows, named_columns, truths_named, hypotheses_named, rows_named_once, columns_named_once}
use Rattle.booking.proofs.Paired.{pair_event_at}
use Rattle.metrics_laws.proofs.Meaning.{pairs, named_by_last}
use Rattle.motmetrics.specs.declared.MOTAccumulator.{MOTAccumulator}
use Rattle.motmetrics_update.specs.declared.Updated.{Updated}
use Rattle.motmetrics_update.specs.Update.{refused_at, matched_by, booked_with, book_of, frame_after}
use Rattle.motmetrics_update.proofs.Steps.{pairing_fits}
use Rattle.sizes.specs.Sizes.{shape_no}
use Rattle.sizes.proofs.Shape.{Shaped, well_shaped}

-- ---- number 0: a frame of its shape, a table and a log with room
pub record Open (s : MOTAccumulator) (b : Booked) (es : List Event) (u : Updated) : Type 0 where
  pub unfilled : b.full ≡ false
  pub room : s.log.used + length es ≤ 1024
  pub log_is : u.state.log ≡ log_after s.log es
  pub table_is : u.state.last_match ≡ b.truths

module _ (s : MOTAccumulator) (frame : ℤ) (objects hypotheses : List ℤ) (distances : List Float) where
  abbrev pub w : ℕ
  w = length hypotheses

  abbrev pub pairing : Pairing
  pairing = by_distance distances w

  abbrev pub booked : Booked
  booked = matched_by s objects hypotheses pairing

  abbrev pub events : List Event
  events = events_of frame objects hypotheses distances pairing booked.switched

  abbrev pub after : Updated
  after = frame_after s frame objects hypotheses distances

  open_book : (b : Booked) (es : List Event) → (booked_with s b es).number ≡ 0 → Open s b es (booked_with s b es)
  open_book b es e = go b.full (ltb 1024 (s.log.used + length es)) refl refl e
    where
      go : (x y : Bool) → b.full ≡ x → ltb 1024 (s.log.used + length es) ≡ y → ◌≡◌ {A = ℕ} (cond x 5 (cond y 6 0)) 0 → Open s b es (booked_with s b es)
      go true y p q r = absurd (omega arith)
      go false true p q r = absurd (omega arith)
      go false false p q r = record { unfilled = p; room = ltb-false 1024 (s.log.used + length es) q; log_is = rw (p, q) refl; table_is = rw (p, q) refl }

  pick_open : (number : ℕ) (x : Updated) → (cond (eqb number 0) x (refused_at number s)).number ≡ 0 → (number ≡ 0) × (x.number ≡ 0) × (cond (eqb number 0) x (refused_at number s) ≡ x)
  pick_open number x e = go (eqb number 0) refl e
    where
      go : (b : Bool) → eqb number 0 ≡ b → (cond b x (refused_at number s)).number ≡ 0 → (number ≡ 0) × (x.number ≡ 0) × (cond b x (refused_at number s) ≡ x)
      go true q r = (eqb-true number 0 q, r, refl)
      go false q r = absurd (eqb-false number 0 q r)

  module _ (accepted : after.number ≡ 0) where
    number_0 : (shape_no (length objects) w (length distances) ≡ 0) × ((book_of s frame objects hypotheses distances pairing).number ≡ 0)
        × (after ≡ book_of s frame objects hypotheses distances pairing)
    unfolding frame_after
    number_0 = pick_open (shape_no (length objects) w (length distances)) (book_of s frame objects hypotheses distances pairing) accepted

    pub shaped : Shaped (length objects) w (length distances)
    shaped = well_shaped (length objects) w (length distances) number_0.0

    book_open : Open s booked events (book_of s frame objects hypotheses distances pairing)
    unfolding book_of
    book_open = open_book booked events number_0.1

    pub opened : Open s booked events after
    opened = subst (Open s booked events) (sym number_0.2) book_open

    pub fits : Fitting (length objects) w pairing
    fits = pairing_fits s frame objects hypotheses distances shaped

    -- APPENDED: the log's events are those that were, and the frame's after them; every later place keeps what it held
    pub log_grows : length s.log.events ≡ 1024 → logged after.state.log ≡ logged s.log ++ events
    log_grows e = let r = opened.room in ap logged opened.log_is ∙ appends s.log events (omega arith)

    pub log_keeps : length s.log.events ≡ 1024 → drop (s.log.used + length events) after.state.log.events ≡ drop (s.log.used + length events) s.log.events
    log_keeps e = let r = opened.room in rw opened.log_is (kept_after s.log events (omega arith))

    -- EACH ONCE: the events hold the id of every row and of every column, each in one of them
    abbrev order : List ℕ
    order = sort_of distances (places_of is_finite distances)

    order_inside : Each (λ k. k < length objects * w) order
    order_inside = rw (← shaped.whole) (each_still distances _ _ (places_inside is_finite distances))

    pub truths_held : truths_in events ≡ map (id_at objects) (named_rows objects hypotheses pairing)
    truths_held = truths_named frame objects hypotheses distances pairing booked.switched

    pub hypotheses_held : hypotheses_in events ≡ map (id_at hypotheses) (named_columns hypotheses pairing)
    hypotheses_held = hypotheses_named frame objects hypotheses distances pairing booked.switched

    pub rows_once : Once (length objects) (named_rows objects hypotheses pairing)
    unfolding by_distance
    rows_once = rows_named_once objects hypotheses order shaped.few_rows shaped.few_columns order_inside

    pub columns_once : Once w (named_columns hypotheses pairing)
    unfolding by_distance
    columns_once = columns_named_once objects hypotheses order shaped.few_rows shaped.few_columns order_inside

    -- A PAIR: its own distance, which is finite, and a switch exactly where its object id's last partner is another
    module _ (i : ℕ) (h : i < pairing.used) where
      abbrev place : ℕ
      place = get_or pairing.pairs i 0

      pub pair_logged : get_or events i no_event ≡ pair_event frame (on booked.switched i) (id_at objects (place / w)) (id_at hypotheses (place % w)) (get_or distances place nan)
      pair_logged = pair_event_at frame objects hypotheses distances pairing booked.switched i h

      pub pair_switches : on booked.switched i
          ≡ switches (last_of (match_all (table_of s.last_match) (take i (pairs objects hypotheses pairing fits))) (id_at objects (place / w))) (id_at hypotheses (place % w))
      pair_switches = named_by_last objects hypotheses pairing fits s.last_match i opened.unfilled h

      pub pair_finite : is_finite (key_of distances place) ≡ true
      unfolding by_distance
      pair_finite =
          let q = pairs_are w order in
          let e : place ≡ get_or (taken_of w order) i 0 = sym (get_or-take pairing.used pairing.pairs i 0 h) ∙ ap (λ (x : List ℕ). get_or x i 0) q in
          let n = ap length q in
          let m = pairs_long _ _ pairing fits in
          rw e (each_at (λ k. is_finite (key_of distances k) ≡ true) (taken_of w order) i (distances_pass distances w) (omega arith))
