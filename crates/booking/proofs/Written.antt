-- The events of a frame, written one after the other at the end of a log. Assumes nothing.
use mathlib.Core.Path.{◌≡◌, refl, sym, ap, ◌∙◌, subst}
use mathlib.Core.Bool.{Bool, not}
use mathlib.Core.List.{List, [], ◌∷◌, ◌++◌}
use Prim.Native.Nat.{ℕ, suc, ◌+◌, ◌-◌, ◌<◌, ◌≤◌}
use native.Mathlib.Omega.{arith}
use native.Mathlib.Nat.{add-zero}
use native.Mathlib.Numerals.{add-one}
use lib.IntN.{ℤ}
use lib.ListN.{length, get_or, set, replicate, get_or-append}
use lib.Seq.{sets}
use lib.Ieee.{Float}
use Rattle.square.specs.Index.{filled, on}
use Rattle.square.proofs.Gather.{gather-map, gather-length, gather_at, which}
use Rattle.events.specs.declared.Event.{Event}
use Rattle.events.specs.declared.Log.{Log}
use Rattle.greedy.specs.declared.Pairing.{Pairing}
use Rattle.greedy.specs.Greedy.{left_of, Fitting}
use Rattle.booking.specs.Booking.{matched_at, missed_at, false_at, events_of, log_after, event_at, Lists}
use Rattle.booking.proofs.Numbered.{each_of, each_none, each_more, each_length, in_a_row}

-- ---- the lists of what is left
left_in : (n : ℕ) (m : List Bool) (t : ℕ) → t < length (left_of n m) → get_or (filled 0 (left_of n m)) t 0 < n
left_in n m t h =
    let P : ℕ → Bool = λ i. not (on m i) in
    let a = which P n t (omega (arith, gather-length P (λ i. i) n)) in
    let e : get_or (left_of n m) t 0 ≡ a.0 = subst (λ (x : ℕ). get_or (left_of n m) x 0 ≡ a.0) a.3 (gather_at P (λ i. i) n a.0 0 a.1 a.2) in
    rw (get_or-append (left_of n m) (replicate (64 - length (left_of n m)) 0) 0 t h, e) a.1

module _ (n w : ℕ) (p : Pairing) (f : Fitting n w p) where
  pub lists : n ≤ 64 → w ≤ 64 → Lists n w p.pairs p.used (filled 0 (left_of n p.rows)) (filled 0 (left_of w p.cols))
  lists n64 w64 =
      let r = f.rows in
      let c = f.cols in
      record {
        few_rows = n64;
        few_columns = w64;
        rows_over = omega arith;
        columns_over = omega arith;
        pair_in = f.inside;
        row_in = λ i h. left_in n p.rows i (omega arith);
        column_in = λ j h. left_in w p.cols j (omega arith);
      }

-- ---- all of them
module _ (frame : ℤ) (truths hypotheses : List ℤ) (distances : List Float) (p : Pairing) (switched : List Bool) (f : Fitting (length truths) (length hypotheses) p) where
  abbrev n : ℕ
  n = length truths

  abbrev w : ℕ
  w = length hypotheses

  -- event number k, as the code makes it
  abbrev pub event : ℕ → Event
  event = event_at frame truths hypotheses distances p.pairs switched p.used (filled 0 (left_of n p.rows)) (filled 0 (left_of w p.cols))

  pub all_events : each_of (n + w - p.used) event ≡ events_of frame truths hypotheses distances p switched
  unfolding events_of event_at
  all_events =
      in_a_row (matched_at frame truths hypotheses distances p.pairs switched) (missed_at frame truths) (false_at frame hypotheses) p.used n w (left_of n p.rows) (left_of w p.cols) f.rows f.cols
      ∙ rw (gather-map (missed_at frame truths) (λ i. not (on p.rows i)) (λ i. i) n, gather-map (false_at frame hypotheses) (λ j. not (on p.cols j)) (λ j. j) w) refl

  -- REFUSAL 6 COUNTS THEM: rows + columns - pairs
  pub event_count : length (events_of frame truths hypotheses distances p switched) ≡ n + w - p.used
  event_count = ap length (sym all_events) ∙ each_length (n + w - p.used) event

-- ---- a turn
sets_more : (l : List Event) (i : ℕ) (vs : List Event) (v : Event) → sets l i (vs ++ (v ∷ [])) ≡ set (sets l i vs) (i + length vs) v
sets_more l i [] v = rw (add-zero i) refl
sets_more l i (x ∷ vs) v = sets_more (set l i x) (suc i) vs v ∙ ap (λ (k : ℕ). set (sets (set l i x) (suc i) vs) k v) (let z : suc i + length vs ≡ i + suc (length vs) = omega arith in z)

-- what the loop keeps: the first k events stand from the start on
abbrev pub Writing : List Event → ℕ → (ℕ → Event) → List Event → ℕ → Type 0
Writing events₀ start f events k = events ≡ sets events₀ start (each_of k f)

pub none_written : (events : List Event) (start : ℕ) (f : ℕ → Event) → Writing events start f events 0
none_written events start f = rw (each_none f) refl

pub one_written : (events₀ events events' : List Event) (start k : ℕ) (f : ℕ → Event) (e : Event) → Writing events₀ start f events k → e ≡ f k → events' ≡ set events (start + k) e
    → Writing events₀ start f events' (k + 1)
one_written events₀ events events' start k f e q ee ev =
    ev ∙ rw (q, ee, add-one k, each_more k f, sets_more events₀ start (each_of k f) (f k), each_length k f) refl

pub all_written : (l : Log) (events : List Event) (used k count : ℕ) (f : ℕ → Event) (es : List Event) → Writing l.events l.used f events k → k ≡ count → used ≡ l.used + count
    → each_of count f ≡ es → ◌≡◌ {A = Log} (record { events = events; used = used }) (log_after l es)
unfolding log_after
all_written l events used k count f es q ek eu e =
    let a : events ≡ sets l.events l.used es = q ∙ ap (λ (x : ℕ). sets l.events l.used (each_of x f)) ek ∙ ap (sets l.events l.used) e in
    let b : used ≡ l.used + length es = eu ∙ ap (λ (x : ℕ). l.used + x) (sym (each_length count f) ∙ ap length e) in
    rw (a, b) refl
