-- `paths::augment` meets its contract. Assumes nothing.
use native.Mathlib.Omega.{arith}
use Rattle.paths.proofs.PathCode as path
use Rattle.paths.proofs.augment.Goals as goal

pub flip-requires : goal.flip-requires
flip-requires c = path.trail c.args.c.now _ _ _ _ c.requires.0 _ _ _ _ c.in-Some.ensures.met.1

pub returns-in-Some : goal.returns-in-Some
returns-in-Some c = path.path_made c.args.c.now _ _ _ _ c.requires.0 _ _ _ _ c.in-Some.ensures.met.1 _ _ c.flip.ensures

pub returns-in_default : goal.returns-in_default
returns-in_default c = absurd (omega (arith, c.requires.0.hit_in, c.requires.0.tables.n64, c.in_default.ensures.held.1.hit_is))
