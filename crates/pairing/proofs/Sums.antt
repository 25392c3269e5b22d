-- The sum of the distances, pair by pair. Assumes nothing.
use mathlib.Core.Path.{◌≡◌, refl, sym, ap, ◌∙◌}
use mathlib.Core.List.{List}
use Prim.Native.Nat.{ℕ, ◌+◌, ◌*◌, ◌<◌}
use native.Mathlib.Omega.{arith}
use native.Mathlib.Numerals.{add-one}
use lib.ListN.{get_or}
use lib.Ieee.{Float, nan, binary64, add}
use Rattle.matrix.proofs.Laws.{row_room}
use Rattle.pairing.specs.Pairing.{sum_of}

module _ (m : List Float) (w : ℕ) (rows cols : List ℕ) (total : Float) where
  pub sum_none : total ≡ sum_of m w rows cols 0 total
  unfolding sum_of
  sum_none = refl

  pub sum_more : (k : ℕ) (x : Float) → x ≡ sum_of m w rows cols k total → add binary64 x (get_or m (get_or rows k 0 * w + get_or cols k 0) nan) ≡ sum_of m w rows cols (k + 1) total
  sum_more k x e =
      ap (λ (y : Float). add binary64 y (get_or m (get_or rows k 0 * w + get_or cols k 0) nan)) e
      ∙ sym (ap (λ (n : ℕ). sum_of m w rows cols n total) (add-one k) ∙ (unfold sum_of in refl))

-- a row and a column of the matrix lie in its run
pub in_run : (i h j w len : ℕ) → i < h → j < w → len ≡ h * w → i * w + j < len
in_run i h j w len a b e = let r = row_room i h w len a (omega arith) in omega arith
