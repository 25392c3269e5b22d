-- The truth ids of a frame's pairs, one after the other. Assumes nothing.
use mathlib.Core.Path.{◌≡◌, sym, ap, ◌∙◌}
use mathlib.Core.List.{List, [], ◌∷◌, ◌++◌, map-append}
use Prim.Native.Nat.{ℕ, ◌<◌, ◌+◌, ◌/◌}
use native.Mathlib.Numerals.{add-one}
use lib.IntN.{ℤ, pos}
use lib.ListN.{length, take, set, get_or}
use lib.Seq.{take-suc, take-suc-set}
use Rattle.id_runs.specs.Runs.{row_ids_of}

pub one_more : (truths : List ℤ) (w : ℕ) (ks : List ℕ) (ids : List ℤ) (i : ℕ) (id : ℤ) → i < length ks → i < length ids → id ≡ get_or truths (get_or ks i 0 / w) (pos 0)
    → take i ids ≡ row_ids_of truths w (take i ks) → take (i + 1) (set ids i id) ≡ row_ids_of truths w (take (i + 1) ks)
one_more truths w ks ids i id h n e s =
    let f : ℕ → ℤ = λ (k : ℕ). get_or truths (k / w) (pos 0) in
    rw (add-one i) (take-suc-set ids i id n
    ∙ ((λ j. s j ++ (e j ∷ []))
    ∙ (sym (map-append f (take i ks) (get_or ks i 0 ∷ [])) ∙ ap (row_ids_of truths w) (sym (take-suc ks i 0 h)))))
