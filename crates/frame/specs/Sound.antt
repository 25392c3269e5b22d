-- Refusal 1 for a state, read without a computation: what a sound state is.
use Rattle.std.specs.Prelude.{◌≡◌, true}
use Rattle.std.specs.Int.Signed.{non_neg}
use Rattle.slots.specs.Sound.{Sound}
use Rattle.rows.specs.declared.ExtendedMOTAccumulator.{ExtendedMOTAccumulator}

-- none of document 01's three faults: no negative counter, and a sound table
pub record SoundState (s : ExtendedMOTAccumulator) : Type 0 where
  pub frame : non_neg s.frame_id ≡ true
  pub matches : non_neg s.num_matches ≡ true
  pub misses : non_neg s.num_misses ≡ true
  pub false_positives : non_neg s.num_false_positives ≡ true
  pub switches : non_neg s.num_switches ≡ true
  pub objects : non_neg s.num_objects ≡ true
  pub table : Sound s.slots s.used
