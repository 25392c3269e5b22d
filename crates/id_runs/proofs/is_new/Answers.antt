-- `id_runs::is_new` meets its contract. Assumes nothing.
use mathlib.Core.Path.{◌≡◌, sym, ap, ◌∙◌}
use mathlib.Core.Bool.{true, false}
use mir.Facts.{to_z-of_z}
use Rattle.ids.specs.Ids.{seek_of, is_absent}
use Rattle.id_runs.proofs.Counting.{by_two, not_first}
use Rattle.id_runs.proofs.is_new.Goals as goal
use Rattle.id_runs.proofs.is_new.Goals.{In-Absent}

-- absent from the known ids
absent : (c : In-Absent) → is_absent (seek_of c.args.known.now c.args.id) ≡ true
absent c =
    ap is_absent (ap (seek_of c.args.known.now) (sym (to_z-of_z c.ranges.id)) ∙ (sym c.seek.ensures ∙ c.in-Absent.is))

pub returns-in_default : goal.returns-in_default
returns-in_default c =
    not_first c.args.known.now c.args.fresh.now c.args.id
    (ap is_absent (ap (seek_of c.args.known.now) (sym (to_z-of_z c.ranges.id)) ∙ (sym c.seek.ensures ∙ c.in_default.is)))

pub returns-in_default-seek : goal.returns-in_default-seek
returns-in_default-seek c =
    by_two c.args.known.now c.args.fresh.now c.args.id true false (absent (goal.at.returns-in_default-seek c).In-Absent)
    (ap is_absent (ap (seek_of c.args.fresh.now) (sym (to_z-of_z c.ranges.id)) ∙ (sym c.seek-2.ensures ∙ c.in_default-seek.is)))

pub returns : goal.returns
returns c =
    by_two c.args.known.now c.args.fresh.now c.args.id true true (absent (goal.at.returns c).In-Absent)
    (ap is_absent (ap (seek_of c.args.fresh.now) (sym (to_z-of_z c.ranges.id)) ∙ (sym c.seek-2.ensures ∙ c.in-Absent-seek.is)))
