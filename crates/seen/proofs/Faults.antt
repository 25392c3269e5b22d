-- The test for refusal 1 of a table of ids is true exactly where neither of document 01's faults is there. Assumes nothing.
use mathlib.Core.Path.{◌≡◌, sym, ◌∙◌}
use mathlib.Core.Bool.{true, ◌&&◌}
use mathlib.Core.List.{List}
use Prim.Native.Nat.{ℕ, ◌<◌}
use native.Mathlib.Omega.{arith}
use borrow.Author.Tests.{leb-true, le-leb}
use lib.Dec.{leb}
use lib.IntN.{ℤ, pos}
use lib.ListN.{length, take, get_or}
use lib.Seq.{get_or-take, length-take-le}
use Rattle.counts.proofs.Tests.{both}
use Rattle.ids.specs.Ids.{distinct_of}
use Rattle.ids.proofs.NoneTwice.{distinct_reads, distinct_is}
use Rattle.seen.specs.Sound.{SoundIds}

module _ (capacity : ℕ) (ids : List ℤ) (used : ℕ) (long : length ids ≡ capacity) where
  at : (i : ℕ) → i < used → get_or (take used ids) i (pos 0) ≡ get_or ids i (pos 0)
  at i h = get_or-take used ids i (pos 0) h

  pub ids_read : (leb used capacity && distinct_of (take used ids)) ≡ true → SoundIds capacity ids used
  ids_read e =
      let b = both (leb used capacity) (distinct_of (take used ids)) e in
      let w = leb-true used capacity b.0 in
      let n = length-take-le used ids (omega arith) in
      record {
        within = w;
        once = λ i j p q s. distinct_reads (take used ids) b.1 i j p (omega arith) (at i (omega arith) ∙ (s ∙ sym (at j q)));
      }

  pub ids_are : SoundIds capacity ids used → (leb used capacity && distinct_of (take used ids)) ≡ true
  ids_are s =
      let w = s.within in
      let n = length-take-le used ids (omega arith) in
      rw (
        le-leb used capacity w,
        distinct_is (take used ids) (λ (i j : ℕ) (p : i < j) (q : j < length (take used ids)) e.
            s.once i j p (omega arith) (sym (at i (omega arith)) ∙ (e ∙ at j (omega arith)))),
      )
