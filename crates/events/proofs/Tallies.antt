-- A tally, event by event, and how its counts hang together. Assumes nothing.
use mathlib.Core.Path.{◌≡◌, refl, sym, ap, ◌∙◌}
use mathlib.Core.List.{List, [], ◌∷◌, ◌++◌}
use Prim.Native.Nat.{ℕ, ◌<◌, ◌≤◌, ◌+◌}
use native.Mathlib.Omega.{arith}
use native.Mathlib.Numerals.{add-one}
use lib.ListN.{length, take, get_or}
use lib.Seq.{take-suc, length-take-le}
use lib.Ieee.{Float}
use Rattle.floats.specs.Float.{zero64}
use Rattle.events.specs.declared.Event.{Event}
use Rattle.events.specs.declared.What.{What}
use Rattle.events.specs.declared.What.TheVariants.{Match, Switch, Miss, FalsePositive}
use Rattle.events.specs.declared.Tally.{Tally}
use Rattle.events.specs.Events.{values_of, cases_of, truths_of, no_event, total_of, plus_each, sum_from, itself, iou_of, tally_of, added_of, Room}

-- ---- one event more
total_more : (f : What → ℕ) (es : List Event) (e : Event) → total_of f (es ++ (e ∷ [])) ≡ total_of f es + f e.what
unfolding total_of
total_more f [] e = omega arith
total_more f (x ∷ xs) e = let h = total_more f xs e in omega arith

sum_more : (f : Float → Float) (x : Float) (es : List Event) (e : Event) → sum_from f x (es ++ (e ∷ [])) ≡ plus_each f (sum_from f x es) (values_of e.what).distance
unfolding sum_from
sum_more f x [] e = refl
sum_more f x (y ∷ ys) e = sum_more f (plus_each f x (values_of y.what).distance) ys e

snoc_tally : (es : List Event) (e : Event) → tally_of (es ++ (e ∷ [])) ≡ added_of (tally_of es) e.what
unfolding tally_of added_of
snoc_tally es e =
    λ i. record {
      matches = total_more (λ w. (cases_of w).matches) es e i;
      switches = total_more (λ w. (cases_of w).switches) es e i;
      misses = total_more (λ w. (cases_of w).misses) es e i;
      false_positives = total_more (λ w. (cases_of w).false_positives) es e i;
      truths = total_more truths_of es e i;
      distance = sum_more itself zero64 es e i;
      iou = sum_more iou_of zero64 es e i;
    }

pub tally_more : (events : List Event) (i : ℕ) (t r : Tally) → i < length events → t ≡ tally_of (take i events) → r ≡ added_of t (get_or events i no_event).what
    → r ≡ tally_of (take (i + 1) events)
tally_more events i t r h e q =
    q
    ∙ (ap (λ (x : Tally). added_of x (get_or events i no_event).what) e
    ∙ (sym (snoc_tally (take i events) (get_or events i no_event)) ∙ ap tally_of (sym (ap (λ (n : ℕ). take n events) (add-one i) ∙ take-suc events i no_event h))))

pub tally_none : (t : Tally) → t ≡ record { matches = 0; switches = 0; misses = 0; false_positives = 0; truths = 0; distance = zero64; iou = zero64 } → t ≡ tally_of []
unfolding tally_of total_of sum_from
tally_none t e = e

-- ---- every event is one of the four, and all but a false positive hold a truth id
one_case : (w : What) → (cases_of w).matches + (cases_of w).switches + (cases_of w).misses + (cases_of w).false_positives ≡ 1
one_case (Match t h d) = refl
one_case (Switch t h d) = refl
one_case (Miss t) = refl
one_case (FalsePositive h) = refl

truth_case : (w : What) → truths_of w ≡ (cases_of w).matches + (cases_of w).switches + (cases_of w).misses
truth_case (Match t h d) = refl
truth_case (Switch t h d) = refl
truth_case (Miss t) = refl
truth_case (FalsePositive h) = refl

pub all_counted : (es : List Event) → (tally_of es).matches + (tally_of es).switches + (tally_of es).misses + (tally_of es).false_positives ≡ length es
unfolding tally_of total_of
all_counted [] = refl
all_counted (e ∷ es) = let h = all_counted es in let g = one_case e.what in omega arith

pub truths_counted : (es : List Event) → (tally_of es).truths ≡ (tally_of es).matches + (tally_of es).switches + (tally_of es).misses
unfolding tally_of total_of
truths_counted [] = refl
truths_counted (e ∷ es) = let h = truths_counted es in let g = truth_case e.what in omega arith

-- so no count passes the length of the log
pub room_left : (events : List Event) (i : ℕ) (t : Tally) → length events ≤ 1024 → i < length events → t ≡ tally_of (take i events) → Room t
room_left events i t l h e =
    let a = all_counted (take i events) in
    let b = truths_counted (take i events) in
    let n = length-take-le i events (omega arith) in
    rw e (record { matches = omega arith; switches = omega arith; misses = omega arith; false_positives = omega arith; truths = omega arith })
