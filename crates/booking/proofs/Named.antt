-- The ids that stand in a frame's events: each row's and each column's, once where the pairing names each once. Assumes nothing.
use mathlib.Core.Path.{◌≡◌, refl, sym, ap, ◌∙◌}
use mathlib.Core.Bool.{Bool, true, false, not, cond}
use mathlib.Core.List.{List, [], ◌∷◌, ◌++◌, map, map-append, append_assoc, append-nil}
use mathlib.Core.Logic.{⊎_elim}
use Prim.Native.Nat.{ℕ, zero, suc, ◌*◌, ◌-◌, ◌<◌, ◌≤◌, ◌/◌, ◌%◌}
use lib.IntN.{ℤ}
use lib.ListN.{length, get_or, replicate, get_or-append}
use lib.Ieee.{Float}
use Rattle.square.specs.Index.{gather, filled, Once, on}
use Rattle.square.proofs.Truth.{dec}
use Rattle.square.proofs.Gather.{gather_yes, gather_no, gather_none, gather-map}
use Rattle.events.specs.declared.Event.{Event}
use Rattle.events.specs.declared.What.{What}
use Rattle.events.specs.Events.{values_of}
use Rattle.greedy.specs.declared.Pairing.{Pairing}
use Rattle.sorting.specs.Order.{Each}
use Rattle.greedy.specs.Greedy.{taken_of, pairing_of, left_of}
use Rattle.greedy.proofs.Pairings.{rows_once, cols_once}
use Rattle.booking.proofs.Numbered.{each_same, each_of_lem}
use Rattle.booking.specs.Booking.{id_at, matched_at, missed_at, false_at, matches, misses, false_positives, events_of, truths_in, hypotheses_in}

-- any reading of events, one after the other
module _ (ids : What → List ℤ) where
  all : List Event → List ℤ
  all [] = []
  all (e ∷ es) = ids e.what ++ all es

  all_append : (a b : List Event) → all (a ++ b) ≡ all a ++ all b
  unfolding all
  all_append [] b = refl
  all_append (e ∷ a) b = ap (λ (x : List ℤ). ids e.what ++ x) (all_append a b) ∙ sym (append_assoc (ids e.what) (all a) (all b))

  -- events that hold one such id each
  all_one : (P : ℕ → Bool) (f : ℕ → Event) (g : ℕ → ℤ) → ((i : ℕ) → ids (f i).what ≡ g i ∷ []) → (k : ℕ) → all (gather k P f) ≡ gather k P g
  unfolding all
  all_one P f g h zero = ap all (gather_none P f) ∙ sym (gather_none P g)
  all_one P f g h (suc k) = ⊎_elim
      (λ (e : P k ≡ true).
      ap all (gather_yes P f k e) ∙ all_append (gather k P f) (f k ∷ []) ∙ rw (all_one P f g h k, h k) refl ∙ sym (gather_yes P g k e))
      (λ (e : P k ≡ false). ap all (gather_no P f k e) ∙ all_one P f g h k ∙ sym (gather_no P g k e))
      (dec (P k))

  -- events that hold none
  all_none : (P : ℕ → Bool) (f : ℕ → Event) → ((i : ℕ) → ids (f i).what ≡ []) → (k : ℕ) → all (gather k P f) ≡ []
  unfolding all
  all_none P f h zero = ap all (gather_none P f)
  all_none P f h (suc k) = ⊎_elim
      (λ (e : P k ≡ true). ap all (gather_yes P f k e) ∙ all_append (gather k P f) (f k ∷ []) ∙ rw (all_none P f h k, h k) refl)
      (λ (e : P k ≡ false). ap all (gather_no P f k e) ∙ all_none P f h k)
      (dec (P k))

truths_all : (es : List Event) → truths_in es ≡ all (λ x. (values_of x).truth) es
unfolding truths_in all
truths_all [] = refl
truths_all (e ∷ es) = ap (λ (l : List ℤ). (values_of e.what).truth ++ l) (truths_all es)

hypotheses_all : (es : List Event) → hypotheses_in es ≡ all (λ x. (values_of x).hypothesis) es
unfolding hypotheses_in all
hypotheses_all [] = refl
hypotheses_all (e ∷ es) = ap (λ (l : List ℤ). (values_of e.what).hypothesis ++ l) (hypotheses_all es)

-- the rows that the events name, in their order, and the columns
abbrev pub named_rows : List ℤ → List ℤ → Pairing → List ℕ
named_rows truths hypotheses p = gather p.used (λ i. true) (λ i. get_or p.pairs i 0 / length hypotheses) ++ left_of (length truths) p.rows

abbrev pub named_columns : List ℤ → Pairing → List ℕ
named_columns hypotheses p = gather p.used (λ i. true) (λ i. get_or p.pairs i 0 % length hypotheses) ++ left_of (length hypotheses) p.cols

module _ (frame : ℤ) (truths hypotheses : List ℤ) (distances : List Float) (p : Pairing) (switched : List Bool) where
  pair_truth : (b : Bool) (t h : ℤ) (d : Float) → (values_of (cond b (What.Switch t h d) (What.Match t h d))).truth ≡ t ∷ []
  pair_truth true t h d = refl
  pair_truth false t h d = refl

  pair_hypothesis : (b : Bool) (t h : ℤ) (d : Float) → (values_of (cond b (What.Switch t h d) (What.Match t h d))).hypothesis ≡ h ∷ []
  pair_hypothesis true t h d = refl
  pair_hypothesis false t h d = refl

  abbrev A : List Event
  A = matches frame truths hypotheses distances p switched

  abbrev B : List Event
  B = misses frame truths p

  abbrev C : List Event
  C = false_positives frame hypotheses p

  -- every row's truth id, and every column's hypothesis id
  pub truths_named : truths_in (events_of frame truths hypotheses distances p switched) ≡ map (id_at truths) (named_rows truths hypotheses p)
  unfolding events_of
  truths_named =
      let ids : What → List ℤ = λ x. (values_of x).truth in
      let free_rows : ℕ → Bool = λ i. not (on p.rows i) in
      let free_cols : ℕ → Bool = λ j. not (on p.cols j) in
      let row : ℕ → ℕ = λ i. get_or p.pairs i 0 / length hypotheses in
      let a = all_one ids (λ i. true) (matched_at frame truths hypotheses distances p.pairs switched) (λ i. id_at truths (row i)) (λ i. pair_truth (on switched i) _ _ _) p.used in
      let b = all_one ids free_rows (missed_at frame truths) (id_at truths) (λ i. refl) (length truths) in
      let c = all_none ids free_cols (false_at frame hypotheses) (λ i. refl) (length hypotheses) in
      truths_all (A ++ (B ++ C)) ∙ all_append ids A (B ++ C) ∙ rw (all_append ids B C, a, b, c, append-nil, map-append, gather-map (id_at truths) (λ i. true) row p.used, gather-map (id_at truths) free_rows (λ i. i) (length truths)) refl

  pub hypotheses_named : hypotheses_in (events_of frame truths hypotheses distances p switched) ≡ map (id_at hypotheses) (named_columns hypotheses p)
  unfolding events_of
  hypotheses_named =
      let ids : What → List ℤ = λ x. (values_of x).hypothesis in
      let free_rows : ℕ → Bool = λ i. not (on p.rows i) in
      let free_cols : ℕ → Bool = λ j. not (on p.cols j) in
      let col : ℕ → ℕ = λ i. get_or p.pairs i 0 % length hypotheses in
      let a = all_one ids (λ i. true) (matched_at frame truths hypotheses distances p.pairs switched) (λ i. id_at hypotheses (col i)) (λ i. pair_hypothesis (on switched i) _ _ _) p.used in
      let b = all_none ids free_rows (missed_at frame truths) (λ i. refl) (length truths) in
      let c = all_one ids free_cols (false_at frame hypotheses) (id_at hypotheses) (λ i. refl) (length hypotheses) in
      hypotheses_all (A ++ (B ++ C)) ∙ all_append ids A (B ++ C) ∙ rw (all_append ids B C, a, b, c, map-append, gather-map (id_at hypotheses) (λ i. true) col p.used, gather-map (id_at hypotheses) free_cols (λ i. i) (length hypotheses)) refl

-- ---- of pairs that were taken one after the other
ends_are : (f : ℕ → ℕ) (w : ℕ) (l : List ℕ) → gather (pairing_of w l).used (λ i. true) (λ i. f (get_or (pairing_of w l).pairs i 0)) ≡ map f (taken_of w l)
unfolding pairing_of
ends_are f w l =
    each_same (length (taken_of w l)) (λ i. f (get_or (filled 0 (taken_of w l)) i 0)) (λ i. f (get_or (taken_of w l) i 0))
    (λ i h. ap f (get_or-append (taken_of w l) (replicate (64 - length (taken_of w l)) 0) 0 i h))
    ∙ each_of_lem (taken_of w l) f

module _ (truths hypotheses : List ℤ) (l : List ℕ) (n64 : length truths ≤ 64) (w64 : length hypotheses ≤ 64) (inside : Each (λ k. k < length truths * length hypotheses) l) where
  abbrev p : Pairing
  p = pairing_of (length hypotheses) l

  -- EACH ROW AND EACH COLUMN STANDS IN ONE EVENT
  pub rows_named_once : Once (length truths) (named_rows truths hypotheses p)
  rows_named_once = rw (ends_are (λ k. k / length hypotheses) (length hypotheses) l) (rows_once (length truths) (length hypotheses) l n64 w64 inside)

  pub columns_named_once : Once (length hypotheses) (named_columns hypotheses p)
  columns_named_once = rw (ends_are (λ k. k % length hypotheses) (length hypotheses) l) (cols_once (length truths) (length hypotheses) l n64 w64 inside)
