-- `scenes::frames` meets its contract. Assumes nothing.
use Rattle.scenes.specs.Tables.{match_frames, incident_frames, flat_frames}
use borrow.Author.Rules.{rules}
use Rattle.scenes.proofs.frames.Goals as goal

pub returns-in-Match : goal.returns-in-Match
unfolding match_frames
returns-in-Match c = (rw c.in-Match.is, search rules)

pub returns-in-Incident : goal.returns-in-Incident
unfolding incident_frames
returns-in-Incident c = (rw c.in-Incident.is, search rules)

pub returns-in-Flat : goal.returns-in-Flat
unfolding flat_frames
returns-in-Flat c = (rw c.in-Flat.is, search rules)
