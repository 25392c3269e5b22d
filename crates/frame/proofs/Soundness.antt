-- A frame keeps a sound state sound, and no slot is ever taken away. Assumes nothing.
use mathlib.Core.Path.{◌≡◌, refl, sym, ap, ◌∙◌, subst}
use mathlib.Core.Bool.{Bool, true, false, cond, ◌&&◌, true≢false}
use mathlib.Core.List.{List}
use Prim.Native.Nat.{ℕ, zero, suc, ◌<◌, ◌≤◌, ◌+◌}
use native.Mathlib.Omega.{arith}
use borrow.Author.Tests.{ltb-true, eqb-true, eqb-false}
use lib.Dec.{ltb, eqb}
use lib.IntN.{ℤ}
use lib.ListN.{length, set, get_or}
use lib.Seq.{set-get_or, get_or-set_same, get_or-set_other}
use lib.Signed.{non_neg}
use lib.Ieee.{Float}
use Rattle.counts.proofs.Ids.{same_refl}
use Rattle.counts.proofs.Sums.{stays_above}
use Rattle.counts.proofs.Tests.{both, all_three}
use Rattle.counts.specs.Counts.{same_id}
use Rattle.lifecycle.proofs.Kept.{fresh_sound}
use Rattle.slots.specs.declared.Slot.{Slot}
use Rattle.ids.specs.declared.Lookup.{Lookup}
use Rattle.ids.specs.declared.Lookup.TheVariants.{At, Absent}
use Rattle.ids.specs.Ids.{seek_of}
use Rattle.slots.specs.Slots.{new_slot, no_slot, id_of, ids_of, booked_slot, sound_of}
use Rattle.slots.specs.Sound.{NotNegative, Sound}
use Rattle.ids.proofs.Lookups.{found_below, absent_reads}
use Rattle.slots.proofs.Tables.{ids_long}
use Rattle.slots.proofs.Kept.{booked_id, booked_sound}
use Rattle.slots.proofs.Faults.{id_at, not_negative_reads, not_negative_is, sound_reads, sound_is}
use Rattle.rows.specs.declared.ExtendedMOTAccumulator.{ExtendedMOTAccumulator}
use Rattle.rows.specs.declared.Row.{Row}
use Rattle.rows.specs.declared.Step.{Step}
use Rattle.rows.specs.Rows.{Spot, spot_of, step_of, row_spot, row_step, book_row, trial_after}
use Rattle.totals.specs.declared.Shares.{Shares}
use Rattle.frame.specs.Sound.{SoundState}
use Rattle.frame.specs.Frame.{totals_sound, sound_state, next_frame, shares_of, room_for_all, raised_by, trial_no, closed, frame_of}
use Rattle.frame.proofs.Finals.{trial_good}
use Rattle.frame.proofs.Everywhere.{every_put, every_more}

-- ---- one slot put at a place
module _ (slots : List Slot) (l : length slots ≡ 256) (k : ℕ) (x : Slot) (p : k < 256) where
  -- in place of one with the same id
  same_id_lem : id_of x ≡ id_of (get_or slots k no_slot) → (i : ℕ) → id_of (get_or (set slots k x) i no_slot) ≡ id_of (get_or slots i no_slot)
  same_id_lem e i = by_place_id (eqb i k) refl where
    by_place_id : (b : Bool) → eqb i k ≡ b → id_of (get_or (set slots k x) i no_slot) ≡ id_of (get_or slots i no_slot)
    by_place_id true q =
        let r = eqb-true i k q in
        ap (λ (j : ℕ). id_of (get_or (set slots k x) j no_slot)) r
        ∙ (ap id_of (get_or-set_same slots k x no_slot (omega arith)) ∙ (e ∙ ap (λ (j : ℕ). id_of (get_or slots j no_slot)) (sym r)))
    by_place_id false q = ap id_of (get_or-set_other slots k i x no_slot (eqb-false i k q))

  put_sound : (used : ℕ) → id_of x ≡ id_of (get_or slots k no_slot) → NotNegative x.lifecycle → Sound slots used → Sound (set slots k x) used
  put_sound used e n s =
      record {
        within = s.within;
        once = λ i j a b q. s.once i j a b (sym (same_id_lem e i) ∙ (q ∙ same_id_lem e j));
        counts = every_put (λ (y : Slot). NotNegative y.lifecycle) slots l k x p used n s.counts;
      }

  -- after the used ones, with an id that none of them has
  add_sound : NotNegative x.lifecycle → ((i : ℕ) → i < k → id_of (get_or slots i no_slot) ≡ id_of x → ⊥) → Sound slots k → Sound (set slots k x) (k + 1)
  add_sound n away s =
      record {
        within = omega arith;
        once = λ i j a b q. once i j a b (eqb j k) refl q;
        counts = every_more (λ (y : Slot). NotNegative y.lifecycle) slots l k x p n s.counts;
      }
    where
      off : (i : ℕ) → i < k → get_or (set slots k x) i no_slot ≡ get_or slots i no_slot
      off i h = get_or-set_other slots k i x no_slot (λ (q : i ≡ k). omega arith)

      once : (i j : ℕ) → i < j → j < k + 1 → (b : Bool) → eqb j k ≡ b → id_of (get_or (set slots k x) i no_slot) ≡ id_of (get_or (set slots k x) j no_slot) → ⊥
      once i j a b true e q =
          let r = eqb-true j k e in
          away i (omega arith)
          (ap id_of (sym (off i (omega arith)))
          ∙ (q ∙ (ap (λ (m : ℕ). id_of (get_or (set slots k x) m no_slot)) r ∙ ap id_of (get_or-set_same slots k x no_slot (omega arith)))))
      once i j a b false e q =
          let r = eqb-false j k e in
          s.once i j a (omega (arith, r)) (ap id_of (sym (off i (omega (arith, r)))) ∙ (q ∙ ap id_of (off j (omega (arith, r)))))

-- ---- one row
module _ (t : ExtendedMOTAccumulator) (r : Row) (f : ℤ) (l : length t.slots ≡ 256) (s : Sound t.slots t.used) where
  booked_not_negative : (x : Slot) → NotNegative x.lifecycle → NotNegative (booked_slot x r.to f).slot.lifecycle
  booked_not_negative x n = not_negative_reads (booked_slot x r.to f).slot.lifecycle (booked_sound x r.to f (not_negative_is x.lifecycle n))

  abbrev Left : Spot → Type 0
  Left sp = let p = step_of sp (get_or t.slots sp.at no_slot) t.used r f in Sound (set t.slots sp.at p.slot) p.used

  none_has : seek_of (ids_of t.slots t.used) r.id ≡ Absent → (i : ℕ) → i < t.used → id_of (get_or t.slots i no_slot) ≡ r.id → ⊥
  none_has q i h g =
      let w = s.within in
      let n = ids_long t.slots t.used (omega arith) in
      let a = absent_reads 0 (ids_of t.slots t.used) r.id q i (omega arith) in
      true≢false (sym (same_refl r.id) ∙ (ap (λ (z : ℤ). same_id z r.id) (sym g ∙ sym (id_at t.slots t.used (omega arith) i h)) ∙ a))

  new_left : seek_of (ids_of t.slots t.used) r.id ≡ Absent → (b : Bool) → ltb t.used 256 ≡ b
      → Left (cond b (record { at = t.used; fresh = true; full = false }) (record { at = 0; fresh = false; full = true }))
  unfolding step_of
  new_left q true e =
      let x = new_slot r.id f in
      add_sound t.slots l t.used (booked_slot x r.to f).slot (ltb-true t.used 256 e)
      (booked_not_negative x (not_negative_reads x.lifecycle (fresh_sound r.id f)))
      (λ i h g. none_has q i h (g ∙ booked_id x r.to f)) s
  new_left q false e = subst (λ (ys : List Slot). Sound ys t.used) (sym (set-get_or t.slots 0 no_slot)) s

  at_left : (o : Lookup) → seek_of (ids_of t.slots t.used) r.id ≡ o → Left (spot_of o t.used)
  unfolding spot_of step_of
  at_left (At k) e =
      let w = s.within in
      let n = ids_long t.slots t.used (omega arith) in
      let q = found_below 0 (ids_of t.slots t.used) r.id k e in
      let x = get_or t.slots k no_slot in
      put_sound t.slots l k (booked_slot x r.to f).slot (omega arith) t.used (booked_id x r.to f) (booked_not_negative x (s.counts k (omega arith))) s
  at_left Absent e = new_left e (ltb t.used 256) refl

  pub row_sound : Left (row_spot t r)
  row_sound = at_left (seek_of (ids_of t.slots t.used) r.id) refl

pick_used : (a b : Bool) (x y z : Step) (n : ℕ) → n ≤ x.used → n ≤ y.used → n ≤ z.used → n ≤ (cond a x (cond b y z)).used
pick_used true b x y z n p q o = p
pick_used false true x y z n p q o = q
pick_used false false x y z n p q o = o

row_grows : (t : ExtendedMOTAccumulator) (r : Row) (f : ℤ) → t.used ≤ (row_step t r f).used
unfolding step_of
row_grows t r f = pick_used (row_spot t r).full (row_spot t r).fresh _ _ _ t.used (omega arith) (omega arith) (omega arith)

-- ---- all rows
module _ (rows : ℕ → Row) (f : ℤ) (s : ExtendedMOTAccumulator) (l : length s.slots ≡ 256) (a : Sound s.slots s.used) where
  pub trial_sound : (k : ℕ) → Sound (trial_after rows f s k).state.slots (trial_after rows f s k).state.used
  unfolding trial_after book_row
  trial_sound zero = a
  trial_sound (suc k) = row_sound (trial_after rows f s k).state (rows k) f (trial_good rows f s l a.within k).0 (trial_sound k)

pub trial_grows : (rows : ℕ → Row) (f : ℤ) (s : ExtendedMOTAccumulator) (k : ℕ) → s.used ≤ (trial_after rows f s k).state.used
unfolding trial_after book_row
trial_grows rows f s zero = omega arith
trial_grows rows f s (suc k) =
    let h = trial_grows rows f s k in
    let g = row_grows (trial_after rows f s k).state (rows k) f in
    omega arith

-- ---- a frame
pub totals_sound_kept : (rows : ℕ → Row) (f : ℤ) (s : ExtendedMOTAccumulator) (k : ℕ) → totals_sound (trial_after rows f s k).state ≡ totals_sound s
unfolding trial_after book_row totals_sound
totals_sound_kept rows f s zero = refl
totals_sound_kept rows f s (suc k) = totals_sound_kept rows f s k

signs : (t : ExtendedMOTAccumulator) → totals_sound t ≡ true
    → ((non_neg t.frame_id ≡ true) × (non_neg t.num_matches ≡ true) × (non_neg t.num_misses ≡ true))
    × ((non_neg t.num_false_positives ≡ true) × (non_neg t.num_switches ≡ true) × (non_neg t.num_objects ≡ true))
unfolding totals_sound
signs t e =
    let p = both (non_neg t.frame_id && (non_neg t.num_matches && non_neg t.num_misses)) (non_neg t.num_false_positives && (non_neg t.num_switches && non_neg t.num_objects)) e in (
      all_three (non_neg t.frame_id) (non_neg t.num_matches) (non_neg t.num_misses) p.0,
      all_three (non_neg t.num_false_positives) (non_neg t.num_switches) (non_neg t.num_objects) p.1,
    )

raised_sound : (t : ExtendedMOTAccumulator) (by : Shares) (d : Float) → totals_sound t ≡ true → totals_sound (raised_by t by d) ≡ true
unfolding totals_sound raised_by
raised_sound t by d e =
    let x = (signs t e).0 in
    let y = (signs t e).1 in
    rw (
      stays_above t.frame_id 1 x.0,
      stays_above t.num_matches by.matches x.1,
      stays_above t.num_misses by.misses x.2,
      stays_above t.num_false_positives by.false_positives y.0,
      stays_above t.num_switches by.switches y.1,
      stays_above t.num_objects by.objects y.2,
    )

state_parts : (s : ExtendedMOTAccumulator) → sound_state s ≡ true → (totals_sound s ≡ true) × (sound_of s.slots s.used ≡ true)
unfolding sound_state
state_parts s e = both (totals_sound s) (sound_of s.slots s.used) e

table_kept : (t : ExtendedMOTAccumulator) (by : Shares) (d : Float) → sound_of t.slots t.used ≡ true → sound_of (raised_by t by d).slots (raised_by t by d).used ≡ true
unfolding raised_by
table_kept t by d a = a

state_made : (t : ExtendedMOTAccumulator) (by : Shares) (d : Float) → totals_sound t ≡ true → sound_of t.slots t.used ≡ true → sound_state (raised_by t by d) ≡ true
unfolding sound_state
state_made t by d e a = rw (raised_sound t by d e) (table_kept t by d a)

-- THE PLAIN READING OF REFUSAL 1 FOR A STATE
pub state_reads : (s : ExtendedMOTAccumulator) → length s.slots ≡ 256 → sound_state s ≡ true → SoundState s
state_reads s l e =
    let h = state_parts s e in
    let x = signs s h.0 in
    record {
      frame = x.0.0;
      matches = x.0.1;
      misses = x.0.2;
      false_positives = x.1.0;
      switches = x.1.1;
      objects = x.1.2;
      table = sound_reads s.slots s.used l h.1;
    }

pub state_is : (s : ExtendedMOTAccumulator) → length s.slots ≡ 256 → SoundState s → sound_state s ≡ true
unfolding sound_state totals_sound
state_is s l a =
    rw (a.frame, a.matches, a.misses, a.false_positives, a.switches, a.objects, sound_is s.slots s.used l a.table)

pick_sound : (b : Bool) (x y : ExtendedMOTAccumulator) → sound_state x ≡ true → sound_state y ≡ true → sound_state (cond b x y) ≡ true
pick_sound true x y p q = p
pick_sound false x y p q = q

-- A SOUND STATE STAYS SOUND, ACCEPTED OR REFUSED
pub frame_sound : (s : ExtendedMOTAccumulator) (rows : ℕ → Row) (pairs lefts extra objects : ℕ) (d : Float) → length s.slots ≡ 256 → sound_state s ≡ true
    → sound_state (frame_of s rows pairs lefts extra objects d).state ≡ true
unfolding frame_of closed
frame_sound s rows pairs lefts extra objects d l e =
    let f = next_frame s.frame_id in
    let t = trial_after rows f s (pairs + lefts) in
    let by = shares_of pairs lefts extra t.switches objects in
    let h = state_parts s e in
    let a = sound_reads s.slots s.used l h.1 in
    let g = trial_good rows f s l a.within (pairs + lefts) in
    pick_sound (eqb (trial_no t (room_for_all t.state by)) 0) (raised_by t.state by d) s
    (state_made t.state by d (totals_sound_kept rows f s (pairs + lefts) ∙ h.0) (sound_is t.state.slots t.state.used g.0 (trial_sound rows f s l a (pairs + lefts)))) e

pick_grows : (b : Bool) (x y : ExtendedMOTAccumulator) (n : ℕ) → n ≤ x.used → n ≤ y.used → n ≤ (cond b x y).used
pick_grows true x y n p q = p
pick_grows false x y n p q = q

pub used_grows : (s : ExtendedMOTAccumulator) (rows : ℕ → Row) (pairs lefts extra objects : ℕ) (d : Float) → s.used ≤ (frame_of s rows pairs lefts extra objects d).state.used
unfolding frame_of closed raised_by
used_grows s rows pairs lefts extra objects d =
    let t = trial_after rows (next_frame s.frame_id) s (pairs + lefts) in
    pick_grows (eqb (trial_no t (room_for_all t.state (shares_of pairs lefts extra t.switches objects))) 0) _ s s.used
    (trial_grows rows (next_frame s.frame_id) s (pairs + lefts)) (omega arith)
