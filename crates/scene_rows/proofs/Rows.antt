-- Rows of a table, laid one behind the other. Assumes nothing.
use mathlib.Core.Path.{◌≡◌, refl, ◌∙◌}
use mathlib.Core.List.{List, [], ◌∷◌, ◌++◌, append_assoc}
use Prim.Native.Nat.{ℕ, ◌+◌, ◌*◌, ◌≤◌, ◌<◌}
use native.Mathlib.Numerals.{add-one}
use native.Mathlib.Omega.{arith}
use lib.IntN.{ℤ, pos}
use lib.Ieee.{Float}
use lib.ListN.{length, take, set, get_or, length-set}
use lib.Seq.{take-suc-set}
use mir.Syntax.{w32}
use mir.Val.{SFits}
use Rattle.scene_rows.specs.Digits.{id_of, box_of, ids_of, boxes_of, Laid}

pub pos_fits : (n : ℕ) → n < 2147483648 → SFits w32 (pos n)
pos_fits n h = record { sfits = h }

one_laid : {A : Type 0} (out : List A) (i : ℕ) (a : A) → i < length out → take (i + 1) (set out i a) ≡ take i out ++ (a ∷ [])
one_laid out i a h = rw (add-one i) (take-suc-set out i a h)

-- four stores one behind the other
pub four_laid : (out : List Float) (at : ℕ) (a b c d : Float) → at + 4 ≤ length out → take (at + 4) (set (set (set (set out at a) (at + 1) b) (at + 2) c) (at + 3) d) ≡ take at out ++ (a ∷ b ∷ c ∷ d ∷ [])
four_laid out at a b c d h =
    let o1 = set out at a in
    let o2 = set o1 (at + 1) b in
    let o3 = set o2 (at + 2) c in
    let l1 : length o1 ≡ length out = length-set out at a in
    let l2 : length o2 ≡ length out = length-set o1 (at + 1) b ∙ l1 in
    let l3 : length o3 ≡ length out = length-set o2 (at + 2) c ∙ l2 in
    let e4 : at + 4 ≡ at + 3 + 1 = omega arith in
    let e3 : at + 3 ≡ at + 2 + 1 = omega arith in
    let e2 : at + 2 ≡ at + 1 + 1 = omega arith in
    rw (e4, one_laid o3 (at + 3) d (omega arith), e3, one_laid o2 (at + 2) c (omega arith), e2, one_laid o1 (at + 1) b (omega arith), one_laid out at a (omega arith)) (simp append_assoc)

pub none_laid : (rows : List ℕ) (first : ℕ) (ids : List ℤ) (boxes : List Float) → Laid rows first 0 ids boxes
unfolding ids_of boxes_of
none_laid rows first ids boxes = record { the_ids = refl; the_boxes = refl }

-- one row more
module _ (rows : List ℕ) (first i : ℕ) where
  id_laid : (ids : List ℤ) (z : ℤ) → i < length ids → take i ids ≡ ids_of rows first i → z ≡ pos (id_of (get_or rows (first + i) 0)) → take (i + 1) (set ids i z) ≡ ids_of rows first (i + 1)
  unfolding ids_of
  id_laid ids z h e q = rw (one_laid ids i z h, e, q, add-one i)

  box_laid : (boxes after : List Float) → take (i * 4) boxes ≡ boxes_of rows first i → take (i * 4 + 4) after ≡ take (i * 4) boxes ++ box_of (get_or rows (first + i) 0) → take ((i + 1) * 4) after ≡ boxes_of rows first (i + 1)
  unfolding boxes_of
  box_laid boxes after e q =
      let n : (i + 1) * 4 ≡ i * 4 + 4 = omega arith in
      rw (n, q, e, add-one i)

  pub row_laid : (ids : List ℤ) (z : ℤ) (boxes after : List Float) → i < length ids → Laid rows first i ids boxes → z ≡ pos (id_of (get_or rows (first + i) 0)) → take (i * 4 + 4) after ≡ take (i * 4) boxes ++ box_of (get_or rows (first + i) 0) → Laid rows first (i + 1) (set ids i z) after
  row_laid ids z boxes after h l q r = record { the_ids = id_laid ids z h l.the_ids q; the_boxes = box_laid boxes after l.the_boxes r }
