-- Runs of zeros with nothing used: no event, a new table, and a sound state. What else the log's places hold is never read. Assumes nothing.
use mathlib.Core.Path.{◌≡◌, refl}
use mathlib.Core.Bool.{true}
use mathlib.Core.List.{[]}
use lib.IntN.{pos}
use lib.ListN.{replicate}
use Rattle.floats.specs.Float.{zero64}
use Rattle.ids.specs.Ids.{distinct_of}
use Rattle.events.specs.Events.{logged}
use Rattle.partners.specs.Partners.{new_truths, ids_sound}
use Rattle.truths_in_place.proofs.New as tables
use Rattle.motmetrics.specs.State.{sound_state}
use Rattle.motmetrics_in_place.specs.declared.Used.{Used}
use Rattle.motmetrics_in_place.specs.Updated.{Runs, runs_of, state_of}

abbrev zeros : Runs
zeros = runs_of (replicate 4096 (pos 0)) (replicate 1024 zero64) (replicate 768 (pos 0))

abbrev none : Used
none = record { events = 0; truths = 0 }

pub no_event : logged (state_of zeros none).log ≡ []
no_event = refl

pub new_table : (state_of zeros none).last_match ≡ new_truths
new_table = tables.new_table

pub zeros_sound : sound_state (state_of zeros none) ≡ true
unfolding sound_state ids_sound distinct_of
zeros_sound = refl
