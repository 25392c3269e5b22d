-- Runs of zeros with nothing used: no event, new tables, and a sound state. What else the log's places hold is never read. Assumes nothing.
use mathlib.Core.Path.{◌≡◌, refl}
use mathlib.Core.Bool.{true}
use mathlib.Core.List.{[]}
use lib.IntN.{pos}
use lib.ListN.{replicate}
use Rattle.floats.specs.Float.{zero64}
use Rattle.ids.specs.Ids.{distinct_of}
use Rattle.events.specs.Events.{logged}
use Rattle.seen.specs.Seen.{new_hypotheses, hypotheses_sound}
use Rattle.partners.specs.Partners.{new_truths, ids_sound}
use Rattle.truths_in_place.proofs.New as tables
use Rattle.metrics.specs.State.{sound_state}
use Rattle.metrics_in_place.specs.declared.Used.{Used}
use Rattle.metrics_in_place.specs.InPlace.{Runs, runs_of, state_of}

abbrev zeros : Runs
zeros = runs_of (replicate 4096 (pos 0)) (replicate 1024 zero64) (replicate 768 (pos 0)) (replicate 1024 (pos 0))

abbrev none : Used
none = record { events = 0; truths = 0; hypotheses = 0 }

pub no_event : logged (state_of zeros none).log ≡ []
no_event = refl

pub new_truths_lem : (state_of zeros none).truths ≡ new_truths
new_truths_lem = tables.new_table

pub new_hypotheses_lem : (state_of zeros none).hypotheses ≡ new_hypotheses
new_hypotheses_lem = refl

pub zeros_sound : sound_state (state_of zeros none) ≡ true
unfolding sound_state ids_sound hypotheses_sound distinct_of
zeros_sound = refl
