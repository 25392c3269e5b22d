-- An event read back from its numbers, and a log with one event written. Assumes nothing.
use mathlib.Core.Path.{◌≡◌, refl, sym, ap, ◌∙◌}
use mathlib.Core.Bool.{Bool, true, false}
use mathlib.Core.List.{List}
use Prim.Native.Nat.{ℕ, zero, suc, ◌+◌, ◌%◌, ◌<◌}
use native.Mathlib.Nat.{mod-eq_of_lt}
use native.Mathlib.Omega.{arith}
use borrow.Author.Tests.{eqb-true, eqb-false}
use lib.Dec.{eqb}
use lib.IntN.{ℤ, pos}
use lib.ListN.{length, get_or, set, length-set}
use lib.Seq.{ext_get_or, get_or-set_same, get_or-set_other}
use lib.Ieee.{Float, nan}
use Rattle.columns.proofs.Runs.{read_all, Fits, fits_up_to, all_long, all_other, all_same}
use Rattle.events.specs.declared.Event.{Event}
use Rattle.events.specs.declared.What.{What}
use Rattle.events.specs.declared.What.TheVariants.{Match, Switch, Miss, FalsePositive}
use Rattle.events.specs.Events.{no_event}
use Rattle.event_columns.specs.declared.Cells.{Cells}
use Rattle.event_columns.specs.Columns.{event_of, cells_with, cells_of, cells_at, numbers_of, put_numbers, events_from, events_in}

-- ---- an event and its numbers
with_back : (frame : ℤ) (w : What) → event_of (cells_with frame w) ≡ record { frame = frame; what = w }
unfolding event_of
with_back frame (Match t h d) = refl
with_back frame (Switch t h d) = refl
with_back frame (Miss t) = refl
with_back frame (FalsePositive h) = refl

pub event_back : (e : Event) → event_of (cells_of e) ≡ e
unfolding cells_of
event_back e = with_back e.frame e.what

-- ---- five numbers in two runs
abbrev cells_in : List ℤ → Float → Cells
cells_in l d =
    record { frame = get_or l 0 (pos 0); kind = get_or l 1 (pos 0); truth = get_or l 2 (pos 0); hypothesis = get_or l 3 (pos 0); distance = d }

at_all : (numbers : List ℤ) (distances : List Float) (k : ℕ) → cells_at numbers distances k ≡ cells_in (read_all numbers 1024 k 4) (get_or distances k nan)
unfolding cells_at
at_all numbers distances k = refl

pub put_long : (numbers : List ℤ) (k : ℕ) (v : Cells) → length (put_numbers numbers k v) ≡ length numbers
unfolding put_numbers
put_long numbers k v = all_long (numbers_of v) numbers 1024 k

module _ (numbers : List ℤ) (distances : List Float) (l : length numbers ≡ 4096) (m : length distances ≡ 1024) (k : ℕ) (h : k < 1024) (v : Cells) where
  four : Fits (length numbers) 1024 k 4
  four = fits_up_to 3 (length numbers) 1024 k (let g : k + 1024 + 1024 + 1024 < length numbers = omega arith in g)

  pub at_same : cells_at (put_numbers numbers k v) (set distances k v.distance) k ≡ v
  unfolding put_numbers
  at_same =
      at_all (put_numbers numbers k v) (set distances k v.distance) k
      ∙ (λ i. cells_in (all_same (numbers_of v) numbers 1024 k (omega arith) four i) (get_or-set_same distances k v.distance nan (omega arith) i))

  pub at_other : (i : ℕ) → i < 1024 → (i ≡ k → ⊥) → cells_at (put_numbers numbers k v) (set distances k v.distance) i ≡ cells_at numbers distances i
  unfolding put_numbers
  at_other i p x =
      at_all (put_numbers numbers k v) (set distances k v.distance) i
      ∙ ((λ j. cells_in
      (all_other 4 (numbers_of v) numbers 1024 k i (λ (e : i % 1024 ≡ k % 1024). x (sym (mod-eq_of_lt p) ∙ (e ∙ mod-eq_of_lt h))) j)
      (get_or-set_other distances k i v.distance nan x j))
      ∙ sym (at_all numbers distances i))

-- ---- the log
from_long : (n : ℕ) (numbers : List ℤ) (distances : List Float) (i : ℕ) → length (events_from numbers distances i n) ≡ n
unfolding events_from
from_long zero numbers distances i = refl
from_long (suc n) numbers distances i = ap suc (from_long n numbers distances (suc i))

from_at : (n : ℕ) (numbers : List ℤ) (distances : List Float) (i k j : ℕ) → k < n → j ≡ i + k → get_or (events_from numbers distances i n) k no_event ≡ event_of (cells_at numbers distances j)
unfolding events_from
from_at zero numbers distances i k j h e = absurd (omega arith)
from_at (suc n) numbers distances i zero j h e = ap (λ (m : ℕ). event_of (cells_at numbers distances m)) (let q : i ≡ j = omega arith in q)
from_at (suc n) numbers distances i (suc k) j h e = from_at n numbers distances (suc i) k j (omega arith) (omega arith)

pub events_long : (numbers : List ℤ) (distances : List Float) → length (events_in numbers distances) ≡ 1024
events_long numbers distances = from_long 1024 numbers distances 0

pub event_there : (numbers : List ℤ) (distances : List Float) (k : ℕ) → k < 1024 → get_or (events_in numbers distances) k no_event ≡ event_of (cells_at numbers distances k)
event_there numbers distances k h = from_at 1024 numbers distances 0 k k h (omega arith)

-- ONE EVENT WRITTEN is one event of the log
module _ (numbers : List ℤ) (distances : List Float) (l : length numbers ≡ 4096) (m : length distances ≡ 1024) (k : ℕ) (h : k < 1024) (e : Event) where
  abbrev after : List Event
  after = events_in (put_numbers numbers k (cells_of e)) (set distances k (cells_of e).distance)

  abbrev wanted : List Event
  wanted = set (events_in numbers distances) k e

  by_place : (i : ℕ) → i < 1024 → (b : Bool) → eqb i k ≡ b → get_or after i no_event ≡ get_or wanted i no_event
  by_place i q true t =
      let n = events_long numbers distances in
      let p = eqb-true i k t in
      ap (λ (j : ℕ). get_or after j no_event) p
      ∙ (event_there _ _ k h ∙ (ap event_of (at_same numbers distances l m k h (cells_of e)) ∙ (event_back e
      ∙ (sym (get_or-set_same (events_in numbers distances) k e no_event (omega arith)) ∙ sym (ap (λ (j : ℕ). get_or wanted j no_event) p)))))
  by_place i q false t =
      let y = eqb-false i k t in
      event_there _ _ i q
      ∙ (ap event_of (at_other numbers distances l m k h (cells_of e) i q y)
      ∙ (sym (event_there numbers distances i q) ∙ sym (get_or-set_other (events_in numbers distances) k i e no_event y)))

  pub put_event : after ≡ wanted
  put_event =
      let n = events_long (put_numbers numbers k (cells_of e)) (set distances k (cells_of e).distance) in
      ext_get_or no_event after wanted (n ∙ sym (length-set (events_in numbers distances) k e ∙ events_long numbers distances))
      (λ (i : ℕ) (q : i < length after). by_place i (omega arith) (eqb i k) refl)
