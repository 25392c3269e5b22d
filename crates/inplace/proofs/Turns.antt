-- One row booked in a run, the log that it leaves, and the log put back. Assumes nothing.
use mathlib.Core.Path.{◌≡◌, refl, sym, ap, ◌∙◌}
use mathlib.Core.Bool.{Bool, true, false, ◌||◌}
use mathlib.Core.List.{List}
use Prim.Native.Nat.{ℕ, zero, suc, ◌+◌, ◌-◌, ◌*◌, ◌<◌, ◌≤◌}
use native.Mathlib.Omega.{arith}
use native.Mathlib.Numerals.{add-one}
use borrow.Author.Tests.{eqb-true, eqb-false}
use lib.Dec.{eqb}
use lib.IntN.{ℤ}
use lib.ListN.{length, get_or, set}
use lib.Seq.{get_or-set_same, get_or-set_other}
use Rattle.counts.specs.Counts.{one_if}
use Rattle.slots.specs.declared.Slot.{Slot}
use Rattle.slot_cells.specs.declared.Cells.{Cells}
use Rattle.slot_cells.specs.Cells.{cells_of}
use Rattle.columns.specs.Columns.{Within, cells_at, put}
use Rattle.columns.proofs.Laws.{put_long, at_same, at_other, put_back, slots_long, put_slot}
use Rattle.rows.specs.declared.ExtendedMOTAccumulator.{ExtendedMOTAccumulator}
use Rattle.rows.specs.declared.Row.{Row}
use Rattle.rows.specs.declared.Step.{Step}
use Rattle.rows.specs.declared.Trial.{Trial}
use Rattle.rows.specs.Rows.{row_spot, row_step, with_slot, trial_of, trial_after}
use Rattle.rows.proofs.Booking.{row_in, one_more}
use Rattle.frame.proofs.Finals.{trial_good}
use Rattle.totals.specs.declared.Totals.{Totals}
use Rattle.frame.specs.Frame.{state_with}
use Rattle.inplace.specs.InPlace.{state_of, place_of, before, table_after, Logged, undone}

-- the totals with another used count
abbrev pub used_now : Totals → ℕ → Totals
used_now t n =
    record {
      used = n;
      frame_id = t.frame_id;
      num_matches = t.num_matches;
      num_misses = t.num_misses;
      num_false_positives = t.num_false_positives;
      num_switches = t.num_switches;
      num_objects = t.num_objects;
      total_distance = t.total_distance;
    }

-- a slot written in the run is a slot put in the state
pub with_slot_lem : (run : List ℤ) (t : Totals) (l : length run ≡ 2304) (at : ℕ) (x : Slot) (n : ℕ) → at < 256
    → state_of (put run 256 at (cells_of x)) (used_now t n) ≡ with_slot (state_of run t) at x n
with_slot_lem run t l at x n h = λ i. state_with (put_slot run l at x h i) (used_now t n)

pub in_log : (log : List ℤ) (k : ℕ) → k < 64 → length log ≡ 576 → Within (length log) 64 k
in_log log k h l = record { inside = h; few = (let w : 64 ≤ 256 = omega arith in w); room = (let w : 9 * 64 ≤ length log = omega arith in w) }

-- one row less to put back
pub undone_less : (run : List ℤ) (places : List ℕ) (log : List ℤ) (k : ℕ) → 0 < k
    → undone (put run 256 (get_or places (k - 1) 0) (cells_at log 64 (k - 1))) places log (k - 1) ≡ undone run places log k
unfolding undone
undone_less run places log zero h = absurd (omega arith)
undone_less run places log (suc k) h =
    let e : suc k - 1 ≡ k = omega arith in
    λ i. undone (put run 256 (get_or places (e i) 0) (cells_at log 64 (e i))) places log (e i)

module _ (rows : ℕ → Row) (f : ℤ) (run₀ : List ℤ) (t₀ : Totals) where
  abbrev trial : ℕ → Trial
  trial k = trial_after rows f (state_of run₀ t₀) k

  pub after_long : (k : ℕ) → length (table_after rows f run₀ t₀ k) ≡ length run₀
  unfolding table_after
  after_long zero = refl
  after_long (suc k) =
      put_long (table_after rows f run₀ t₀ k) 256 (place_of rows f run₀ t₀ k) (cells_of (row_step (before rows f run₀ t₀ k) (rows k) f).slot) ∙ after_long k

  pub place_in : t₀.used ≤ 256 → (k : ℕ) → place_of rows f run₀ t₀ k < 256
  place_in u k =
      let g = trial_good rows f (state_of run₀ t₀) (slots_long run₀) u k in
      (row_in (trial k).state (rows k) f g.1 g.0).0

  -- ---- one turn
  module _ (k : ℕ) (run : List ℤ) (t : Totals) (full over : Bool) (n : ℕ) (e : trial_of (state_of run t) full over n ≡ trial k)
      (at : ℕ) (a : at ≡ (row_spot (state_of run t) (rows k)).at) (p : Step) (q : p ≡ row_step (state_of run t) (rows k) f) where
    pub place_is : at ≡ place_of rows f run₀ t₀ k
    place_is = a ∙ ap (λ (x : Trial). (row_spot x.state (rows k)).at) e

    pub next_table : run ≡ table_after rows f run₀ t₀ k → put run 256 at (cells_of p.slot) ≡ table_after rows f run₀ t₀ (k + 1)
    unfolding table_after
    next_table r =
        let b = place_is in
        let d : p ≡ row_step (before rows f run₀ t₀ k) (rows k) f = q ∙ ap (λ (x : Trial). row_step x.state (rows k) f) e in
        (λ i. put (r i) 256 (b i) (cells_of (d i).slot)) ∙ sym (ap (table_after rows f run₀ t₀) (add-one k))

    pub next_trial : length run ≡ 2304 → at < 256 → (full' over' : Bool) (m : ℕ) → full' ≡ (full || p.full) → over' ≡ (over || p.over) → m ≡ one_if p.switched
        → trial_of (state_of (put run 256 at (cells_of p.slot)) (used_now t p.used)) full' over' (n + m) ≡ trial (k + 1)
    next_trial l h full' over' m b d g =
        ap (λ (s : ExtendedMOTAccumulator). trial_of s full' over' (n + m)) (with_slot_lem run t l at p.slot p.used h)
        ∙ one_more rows f (state_of run₀ t₀) k (state_of run t) full over n e at a p q full' over' m b d g

  -- ---- the log
  module _ (k : ℕ) (places : List ℕ) (log : List ℤ) (g : Logged rows f run₀ t₀ places log k) (h : k < 64) (lp : length places ≡ 64) (ll : length log ≡ 576)
      (at : ℕ) (a : at ≡ place_of rows f run₀ t₀ k) (old : Cells) (o : old ≡ cells_at (table_after rows f run₀ t₀ k) 256 (place_of rows f run₀ t₀ k)) where
    place_by : (j : ℕ) → j < k + 1 → (b : Bool) → eqb j k ≡ b → get_or (set places k at) j 0 ≡ place_of rows f run₀ t₀ j
    place_by j p true e =
        let i = eqb-true j k e in
        ap (λ (m : ℕ). get_or (set places k at) m 0) i ∙ (get_or-set_same places k at 0 (omega arith) ∙ (a ∙ sym (ap (place_of rows f run₀ t₀) i)))
    place_by j p false e =
        let x = eqb-false j k e in
        get_or-set_other places k j at 0 x ∙ g.place j (omega arith)

    numbers_by : (j : ℕ) → j < k + 1 → (b : Bool) → eqb j k ≡ b
        → cells_at (put log 64 k old) 64 j ≡ cells_at (table_after rows f run₀ t₀ j) 256 (place_of rows f run₀ t₀ j)
    numbers_by j p true e =
        let i = eqb-true j k e in
        ap (cells_at (put log 64 k old) 64) i
        ∙ (at_same log 64 k (in_log log k h ll) old ∙ (o ∙ sym (ap (λ (m : ℕ). cells_at (table_after rows f run₀ t₀ m) 256 (place_of rows f run₀ t₀ m)) i)))
    numbers_by j p false e =
        let x = eqb-false j k e in
        at_other log 64 k (in_log log k h ll) j (omega arith) x old ∙ g.numbers j (omega arith)

    pub logged_more : Logged rows f run₀ t₀ (set places k at) (put log 64 k old) (k + 1)
    logged_more = record { place = λ j p. place_by j p (eqb j k) refl; numbers = λ j p. numbers_by j p (eqb j k) refl }

  -- A LOG PUT BACK: the run is what it was, number by number
  pub undone_is : (k : ℕ) (places : List ℕ) (log : List ℤ) → Logged rows f run₀ t₀ places log k → undone (table_after rows f run₀ t₀ k) places log k ≡ run₀
  unfolding undone table_after
  undone_is zero places log g = refl
  undone_is (suc k) places log g =
      let T = table_after rows f run₀ t₀ k in
      let at = place_of rows f run₀ t₀ k in
      let v = cells_of (row_step (before rows f run₀ t₀ k) (rows k) f).slot in
      ap (λ (x : List ℤ). undone x places log k)
      ((λ i. put (put T 256 at v) 256 (g.place k (omega arith) i) (g.numbers k (omega arith) i)) ∙ put_back T 256 at v (omega arith))
      ∙ undone_is k places log (record { place = λ j p. g.place j (omega arith); numbers = λ j p. g.numbers j (omega arith) })
