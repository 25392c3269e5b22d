-- `ids_in_place::hypotheses_fit` meets its contract. Assumes nothing.
use mathlib.Core.Path.{◌∙◌}
use Rattle.truths_in_place.proofs.Room.{hypotheses_told}
use Rattle.ids_in_place.proofs.hypotheses_fit.Goals as goal

pub returns : goal.returns
returns c = c.ids_fit.ensures ∙ hypotheses_told c.args.run.now c.args.used c.args.ids.now
