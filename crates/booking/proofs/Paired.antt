-- The first events of a frame are those of its pairs, in their order. Assumes nothing.
use mathlib.Core.Path.{◌≡◌, refl, ap, ◌∙◌}
use mathlib.Core.Bool.{Bool, true, false}
use mathlib.Core.List.{List, [], ◌∷◌, ◌++◌}
use Prim.Native.Nat.{ℕ, zero, suc, ◌<◌}
use native.Mathlib.Nat.{not-suc-le-zero}
use native.Mathlib.Omega.{arith}
use borrow.Author.Tests.{ltb-true, ltb-false}
use lib.Dec.{ltb}
use lib.IntN.{ℤ}
use lib.ListN.{get_or, get_or-append}
use lib.Seq.{get_or_at}
use lib.Ieee.{Float}
use Rattle.events.specs.Events.{no_event}
use Rattle.greedy.specs.declared.Pairing.{Pairing}
use Rattle.booking.specs.Booking.{matched_at, misses, false_positives, events_of}
use Rattle.booking.proofs.Numbered.{each_of, each_more, each_length}

module _ {A : Type 0} (f : ℕ → A) (d : A) where
  last_or : (n i : ℕ) → (i < n → get_or (each_of n f) i d ≡ f i) → i < suc n → (b : Bool) → ltb i n ≡ b → get_or (each_of n f ++ (f n ∷ [])) i d ≡ f i
  last_or n i ih h true e =
      let p = ltb-true i n e in
      let l = each_length n f in
      get_or-append (each_of n f) (f n ∷ []) d i (omega arith) ∙ ih p
  last_or n i ih h false e =
      let p = ltb-false i n e in
      let z : i ≡ n = omega arith in
      rw z (get_or_at (each_of n f) (f n) [] d n (each_length n f))

  each_at : (n i : ℕ) → i < n → get_or (each_of n f) i d ≡ f i
  each_at zero i h = absurd (not-suc-le-zero h)
  each_at (suc n) i h = ap (λ (l : List A). get_or l i d) (each_more n f) ∙ last_or n i (each_at n i) h (ltb i n) refl

pub pair_event_at : (frame : ℤ) (truths hypotheses : List ℤ) (distances : List Float) (p : Pairing) (switched : List Bool) (i : ℕ) → i < p.used
    → get_or (events_of frame truths hypotheses distances p switched) i no_event ≡ matched_at frame truths hypotheses distances p.pairs switched i
unfolding events_of
pair_event_at frame truths hypotheses distances p switched i h =
    let f = matched_at frame truths hypotheses distances p.pairs switched in
    let l = each_length p.used f in
    get_or-append (each_of p.used f) (misses frame truths p ++ false_positives frame hypotheses p) no_event i (omega arith) ∙ each_at f no_event p.used i h
