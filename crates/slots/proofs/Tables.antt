-- The used places of a table, place by place: their ids and their counts. Assumes nothing.
use mathlib.Core.Path.{◌≡◌, sym, ap, ◌∙◌}
use mathlib.Core.Bool.{true, false}
use mathlib.Core.List.{List, [], ◌∷◌, ◌++◌, map, map-append}
use Prim.Native.Nat.{ℕ, suc, ◌<◌, ◌≤◌, ◌+◌, ◌-◌}
use native.Mathlib.Omega.{arith}
use native.Mathlib.Numerals.{add-one}
use lib.IntN.{ℤ, pos}
use lib.ListN.{length, take, drop, set, get_or, replicate, length-map, length-append, length-replicate}
use lib.Seq.{take-suc, take_at, set_at, append_snoc, drop-cons, get_or-take, length-take-le}
use Rattle.lifecycle.specs.Lifecycle.{sound_counts}
use Rattle.slots.specs.declared.Slot.{Slot}
use Rattle.slots.specs.Slots.{no_slot, id_of, ids_of, ids_filled, counts_sound}

pub ids_long : (slots : List Slot) (n : ℕ) → n ≤ length slots → length (ids_of slots n) ≡ n
ids_long slots n k = length-map (take n slots) id_of ∙ length-take-le n slots k

-- the used places of the array of ids
pub ids_taken : (slots : List Slot) (n : ℕ) → n ≤ length slots → take n (ids_filled slots n) ≡ ids_of slots n
ids_taken slots n k = take_at (ids_of slots n) (replicate (256 - n) (pos 0)) n (ids_long slots n k)

pub filled_long : (slots : List Slot) (n : ℕ) → n ≤ 256 → length slots ≡ 256 → length (ids_filled slots n) ≡ 256
filled_long slots n h l =
    let a = ids_long slots n (omega arith) in
    let b = length-replicate (256 - n) (pos 0) in
    length-append (ids_of slots n) (replicate (256 - n) (pos 0)) ∙ omega arith

-- one id more
pub ids_more : (slots : List Slot) (ids : List ℤ) (i : ℕ) (z : ℤ) → length slots ≡ 256 → i < 256 → ids ≡ ids_filled slots i → z ≡ id_of (get_or slots i no_slot)
    → set ids i z ≡ ids_filled slots (i + 1)
ids_more slots ids i z l h e q =
    let one : 256 - i ≡ suc (256 - (i + 1)) = omega arith in
    let id = id_of (get_or slots i no_slot) in
    (λ j. set (e j) i (q j))
    ∙ (ap (λ (n : ℕ). set (ids_of slots i ++ replicate n (pos 0)) i id) one
    ∙ (set_at (ids_of slots i) (pos 0) (replicate (256 - (i + 1)) (pos 0)) id i (ids_long slots i (omega arith))
    ∙ (sym (append_snoc (ids_of slots i) id (replicate (256 - (i + 1)) (pos 0)))
    ∙ ap (λ (ys : List ℤ). ys ++ replicate (256 - (i + 1)) (pos 0))
    (sym (map-append id_of (take i slots) (get_or slots i no_slot ∷ []))
    ∙ (ap (map id_of) (sym (take-suc slots i no_slot (omega arith))) ∙ ap (ids_of slots) (sym (add-one i)))))))

-- ---- one turn of the test's loop
module _ (slots : List Slot) (used i : ℕ) (h : i < used) (k : used ≤ length slots) where
  counted : drop i (take used slots) ≡ get_or slots i no_slot ∷ drop (i + 1) (take used slots)
  counted =
      let l = length-take-le used slots k in
      rw (add-one i) (drop-cons (take used slots) i no_slot (omega arith) ∙ ap (λ (s : Slot). s ∷ drop (suc i) (take used slots)) (get_or-take used slots i no_slot h))

  pub count_bad : sound_counts (get_or slots i no_slot).lifecycle ≡ false → counts_sound (drop i (take used slots)) ≡ false
  unfolding counts_sound
  count_bad e = rw (counted, e)

  pub count_next : sound_counts (get_or slots i no_slot).lifecycle ≡ true → counts_sound (drop i (take used slots)) ≡ counts_sound (drop (i + 1) (take used slots))
  unfolding counts_sound
  count_next e = rw (counted, e)
