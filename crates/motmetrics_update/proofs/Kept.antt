-- A refused frame changes nothing. Assumes nothing.
use mathlib.Core.Path.{◌≡◌, refl}
use mathlib.Core.Bool.{Bool, true, false, cond}
use mathlib.Core.List.{List}
use Prim.Native.Nat.{ℕ}
use borrow.Author.Tests.{ne_eqb}
use lib.Dec.{eqb}
use lib.IntN.{ℤ}
use lib.ListN.{length}
use lib.Ieee.{Float}
use Rattle.sizes.specs.Sizes.{shape_no}
use Rattle.greedy.specs.declared.Pairing.{Pairing}
use Rattle.greedy_pairs.specs.Pairs.{by_distance}
use Rattle.motmetrics.specs.declared.MOTAccumulator.{MOTAccumulator}
use Rattle.motmetrics.specs.State.{sound_state}
use Rattle.motmetrics_update.specs.declared.Updated.{Updated}
use Rattle.motmetrics_update.specs.Update.{refused_at, closed_at, book_of, frame_after, update_of}

pub closed_keeps : (n : ℕ) (s next : MOTAccumulator) → (n ≡ 0 → ⊥) → (closed_at n s next).state ≡ s
closed_keeps n s next h = rw (ne_eqb n 0 h) refl

module _ (s : MOTAccumulator) (frame : ℤ) (objects hypotheses : List ℤ) (distances : List Float) where
  book_keeps : (p : Pairing) → ((book_of s frame objects hypotheses distances p).number ≡ 0 → ⊥) → (book_of s frame objects hypotheses distances p).state ≡ s
  unfolding book_of
  book_keeps p h = closed_keeps _ s _ h

  pick_keeps : (b : Bool) (x y : Updated) → ((x.number ≡ 0 → ⊥) → x.state ≡ s) → y.state ≡ s → ((cond b x y).number ≡ 0 → ⊥) → (cond b x y).state ≡ s
  pick_keeps true x y f g h = f h
  pick_keeps false x y f g h = g

  frame_keeps : ((frame_after s frame objects hypotheses distances).number ≡ 0 → ⊥) → (frame_after s frame objects hypotheses distances).state ≡ s
  unfolding frame_after
  frame_keeps h =
      let number = shape_no (length objects) (length hypotheses) (length distances) in
      let p = by_distance distances (length hypotheses) in
      pick_keeps (eqb number 0) (book_of s frame objects hypotheses distances p) (refused_at number s) (book_keeps p) refl h

  pub refused_keeps : ((update_of s frame objects hypotheses distances).number ≡ 0 → ⊥) → (update_of s frame objects hypotheses distances).state ≡ s
  unfolding update_of
  refused_keeps h = pick_keeps (sound_state s) (frame_after s frame objects hypotheses distances) (refused_at 1 s) frame_keeps refl h
