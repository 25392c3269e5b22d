-- Events written one after the other into the two runs of a log: the runs after one more, and the log that they stand for. Assumes nothing.
use mathlib.Core.Path.{◌≡◌, refl, ap, ◌∙◌}
use mathlib.Core.List.{List, [], ◌∷◌, ◌++◌}
use Prim.Native.Nat.{ℕ, suc, ◌+◌, ◌≤◌}
use native.Mathlib.Omega.{arith}
use native.Mathlib.Nat.{add-zero}
use native.Mathlib.Numerals.{add-one}
use lib.IntN.{ℤ}
use lib.ListN.{length, set, length-set}
use lib.Seq.{sets}
use lib.Ieee.{Float}
use Rattle.events.specs.declared.Event.{Event}
use Rattle.events.specs.declared.Log.{Log}
use Rattle.event_columns.specs.declared.Cells.{Cells}
use Rattle.event_columns.specs.Columns.{cells_of, put_numbers, events_in, log_of}
use Rattle.event_columns.proofs.Laws.{put_long, put_event}
use Rattle.booking.specs.Booking.{log_after}
use Rattle.booking.proofs.Numbered.{each_of, each_none, each_more, each_length}
use Rattle.booking_in_place.specs.Written.{numbers_after, distances_after}

-- ---- one more behind those that stand
numbers_more : (numbers : List ℤ) (i : ℕ) (es : List Event) (e : Event) → numbers_after numbers i (es ++ (e ∷ [])) ≡ put_numbers (numbers_after numbers i es) (i + length es) (cells_of e)
unfolding numbers_after
numbers_more numbers i [] e = rw (add-zero i) refl
numbers_more numbers i (x ∷ es) e =
    numbers_more (put_numbers numbers i (cells_of x)) (suc i) es e
    ∙ ap (λ (k : ℕ). put_numbers (numbers_after (put_numbers numbers i (cells_of x)) (suc i) es) k (cells_of e)) (let z : suc i + length es ≡ i + suc (length es) = omega arith in z)

distances_more : (distances : List Float) (i : ℕ) (es : List Event) (e : Event) → distances_after distances i (es ++ (e ∷ [])) ≡ set (distances_after distances i es) (i + length es) (cells_of e).distance
unfolding distances_after
distances_more distances i [] e = rw (add-zero i) refl
distances_more distances i (x ∷ es) e =
    distances_more (set distances i (cells_of x).distance) (suc i) es e
    ∙ ap (λ (k : ℕ). set (distances_after (set distances i (cells_of x).distance) (suc i) es) k (cells_of e).distance) (let z : suc i + length es ≡ i + suc (length es) = omega arith in z)

-- what the loop keeps: the first k events stand from the start on
pub record Writing (numbers₀ : List ℤ) (distances₀ : List Float) (start : ℕ) (f : ℕ → Event) (numbers : List ℤ) (distances : List Float) (k : ℕ) : Type 0 where
  pub whole : numbers ≡ numbers_after numbers₀ start (each_of k f)
  pub parts : distances ≡ distances_after distances₀ start (each_of k f)

pub none_written : (numbers : List ℤ) (distances : List Float) (start : ℕ) (f : ℕ → Event) → Writing numbers distances start f numbers distances 0
unfolding numbers_after distances_after
none_written numbers distances start f = record { whole = rw (each_none f) refl; parts = rw (each_none f) refl }

pub one_written : (numbers₀ numbers numbers' : List ℤ) (distances₀ distances distances' : List Float) (start k : ℕ) (f : ℕ → Event) (v : Cells)
    → Writing numbers₀ distances₀ start f numbers distances k → v ≡ cells_of (f k)
    → numbers' ≡ put_numbers numbers (start + k) v → distances' ≡ set distances (start + k) v.distance
    → Writing numbers₀ distances₀ start f numbers' distances' (k + 1)
one_written numbers₀ numbers numbers' distances₀ distances distances' start k f v q e en ed =
    record {
      whole = en ∙ rw (q.whole, e, add-one k, each_more k f, numbers_more numbers₀ start (each_of k f) (f k), each_length k f) refl;
      parts = ed ∙ rw (q.parts, e, add-one k, each_more k f, distances_more distances₀ start (each_of k f) (f k), each_length k f) refl;
    }

pub all_written : (numbers₀ numbers : List ℤ) (distances₀ distances : List Float) (start k count : ℕ) (f : ℕ → Event) (es : List Event)
    → Writing numbers₀ distances₀ start f numbers distances k → k ≡ count → each_of count f ≡ es
    → (numbers ≡ numbers_after numbers₀ start es) × (distances ≡ distances_after distances₀ start es)
all_written numbers₀ numbers distances₀ distances start k count f es q ek e =
    let a : each_of k f ≡ es = ap (λ (x : ℕ). each_of x f) ek ∙ e in
    (q.whole ∙ ap (numbers_after numbers₀ start) a, q.parts ∙ ap (distances_after distances₀ start) a)

-- ---- the runs keep their lengths
pub numbers_long : (es : List Event) (numbers : List ℤ) (i : ℕ) → length (numbers_after numbers i es) ≡ length numbers
unfolding numbers_after
numbers_long [] numbers i = refl
numbers_long (e ∷ es) numbers i = numbers_long es (put_numbers numbers i (cells_of e)) (suc i) ∙ put_long numbers i (cells_of e)

pub distances_long : (es : List Event) (distances : List Float) (i : ℕ) → length (distances_after distances i es) ≡ length distances
unfolding distances_after
distances_long [] distances i = refl
distances_long (e ∷ es) distances i = distances_long es (set distances i (cells_of e).distance) (suc i) ∙ length-set distances i (cells_of e).distance

-- ---- THE LOG AFTER: that of the runs that came, with the events after its own
events_after : (es : List Event) (numbers : List ℤ) (distances : List Float) (i : ℕ) → length numbers ≡ 4096 → length distances ≡ 1024 → i + length es ≤ 1024
    → events_in (numbers_after numbers i es) (distances_after distances i es) ≡ sets (events_in numbers distances) i es
unfolding numbers_after distances_after
events_after [] numbers distances i l m h = refl
events_after (e ∷ es) numbers distances i l m h =
    events_after es (put_numbers numbers i (cells_of e)) (set distances i (cells_of e).distance) (suc i) (put_long numbers i (cells_of e) ∙ l) (length-set distances i (cells_of e).distance ∙ m) (omega arith)
    ∙ ap (λ (x : List Event). sets x (suc i) es) (put_event numbers distances l m i (omega arith) e)

pub log_after_lem : (es : List Event) (numbers : List ℤ) (distances : List Float) (used : ℕ) → length numbers ≡ 4096 → length distances ≡ 1024 → used + length es ≤ 1024
    → log_of (numbers_after numbers used es) (distances_after distances used es) (used + length es) ≡ log_after (log_of numbers distances used) es
unfolding log_after
log_after_lem es numbers distances used l m h =
    ap (λ (x : List Event). (let r : Log = record { events = x; used = used + length es } in r)) (events_after es numbers distances used l m h)
