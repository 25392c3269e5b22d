-- `ids_in_place::truths_fit` meets its contract. Assumes nothing.
use mathlib.Core.Path.{◌∙◌}
use Rattle.truths_in_place.proofs.Room.{truths_told}
use Rattle.ids_in_place.proofs.truths_fit.Goals as goal

pub returns : goal.returns
returns c = c.ids_fit.ensures ∙ truths_told c.args.table.now c.args.used c.requires.0 c.args.ids.now
