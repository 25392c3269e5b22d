-- `scenes::frame_at` meets its contract. Assumes nothing.
use Rattle.scenes.specs.Tables.{match_frames, match_truths, match_predictions, incident_frames, incident_truths, incident_predictions}
use Rattle.scenes.specs.Tables.{flat_frames, flat_truths, flat_predictions}
use Rattle.scenes.proofs.Lending.{lent}
use borrow.Author.Rules.{rules}
use Rattle.scenes.proofs.frame_at.Goals as goal

pub returns-in-Match : goal.returns-in-Match
unfolding match_frames match_truths match_predictions
returns-in-Match c =
    let few = c.frame_of.ensures.few in
    record { shown = rw c.in-Match.is c.frame_of.ensures.shown; lent = lent few.truths few.truth_floats (search rules) (search rules); lent_2 = lent few.predictions few.predicted_floats (search rules) (search rules) }

pub returns-in-Incident : goal.returns-in-Incident
unfolding incident_frames incident_truths incident_predictions
returns-in-Incident c =
    let few = c.frame_of-in-Incident.ensures.few in
    record { shown = rw c.in-Incident.is c.frame_of-in-Incident.ensures.shown; lent = lent few.truths few.truth_floats (search rules) (search rules); lent_2 = lent few.predictions few.predicted_floats (search rules) (search rules) }

pub returns-in-Flat : goal.returns-in-Flat
unfolding flat_frames flat_truths flat_predictions
returns-in-Flat c =
    let few = c.frame_of-in-Flat.ensures.few in
    record { shown = rw c.in-Flat.is c.frame_of-in-Flat.ensures.shown; lent = lent few.truths few.truth_floats (search rules) (search rules); lent_2 = lent few.predictions few.predicted_floats (search rules) (search rules) }
