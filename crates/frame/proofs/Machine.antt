-- Every state that machine values stand for has what `Held` says: an array of 256 slots is 256 long, and an i32 has not passed. `Is` is
-- the relation that every argument of a proved function stands in. Assumes nothing.
use mathlib.Core.Path.{◌≡◌, sym, ◌∙◌}
use mathlib.Core.Bool.{true}
use mathlib.Core.List.{List, [], ◌∷◌, map}
use Prim.Native.Nat.{ℕ, zero, suc}
use lib.IntN.{pos}
use lib.ListN.{length, get_or, length-map}
use mir.Val.{Val}
use denote.Laws.{Is}
use denote.Shadow.{shadow}
use denote.Array.{each}
use denote.Struct.Declared as declared
use Rattle.counts.proofs.Sums.{fits_i32}
use Rattle.lifecycle.specs.declared.TrackLifecycle.{TrackLifecycle}
use Rattle.lifecycle.specs.Lifecycle.{counts_fit}
use Rattle.lifecycle.specs.contracts.TrackLifecycle as lifecycles
use Rattle.slots.specs.declared.Slot.{Slot}
use Rattle.slots.specs.Slots.{no_slot}
use Rattle.slots.specs.contracts.Slot as slots
use Rattle.rows.specs.declared.ExtendedMOTAccumulator.{ExtendedMOTAccumulator}
use Rattle.rows.specs.contracts.ExtendedMOTAccumulator as states
use Rattle.frame.specs.Held.{Held}
use Rattle.frame.proofs.Fitting.{new_fits}

lifecycle_fits : (t : TrackLifecycle) (vs : List Val) → Is lifecycles.the_row t vs → counts_fit t ≡ true
unfolding counts_fit
lifecycle_fits t vs h =
    let counts = h.1.1.1.1.1 in
    rw (
      fits_i32 t.tracked_frames (record { sfits = counts.0.1 }),
      fits_i32 t.detected_frames (record { sfits = counts.1.0.1 }),
      fits_i32 t.fragmentations (record { sfits = counts.1.1.0.1 }),
    )

slots_fit : (l : List Slot) (us : List Val) → shadow (each slots.the_row.Denot slots.the_row.own_val l us)
    → (i : ℕ) → counts_fit (get_or l i no_slot).lifecycle ≡ true
slots_fit [] us h i = new_fits (pos 0) (pos 0)
slots_fit (x ∷ xs) [] h i = absurd h
slots_fit (x ∷ xs) (u ∷ us) h zero = lifecycle_fits x.lifecycle _ h.0.1.1.0
slots_fit (x ∷ xs) (u ∷ us) h (suc i) = slots_fit xs us h.1 i

-- EVERY STATE THAT THE CODE HOLDS
pub held : (s : ExtendedMOTAccumulator) (vs : List Val) → Is states.the_row s vs → Held s
held s vs h =
    let table = h.1.1.0 in
    record {
      long = table.1.0.1;
      fit = λ i p. slots_fit s.slots table.0 table.1.1 i;
    }
