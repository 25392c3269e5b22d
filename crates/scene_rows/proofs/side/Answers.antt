-- `scene_rows::side` meets its contract. Assumes nothing.
use mathlib.Core.Path.{sym, ◌∙◌}
use Rattle.scene_rows.proofs.Rows.{none_laid}
use borrow.Author.Rules.{rules}
use Rattle.scene_rows.proofs.side.Goals as goal

pub returns-then-n-eq0 : goal.returns-then-n-eq0
returns-then-n-eq0 c = record { value = (sym c.if-n-eq0.true ∙ c.rows_there-n.ensures.0, none_laid _ _ _ _); upper_bound = search rules }
