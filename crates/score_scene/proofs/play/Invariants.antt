-- `score_scene::play` meets its contract: so far the run stands after number frames. Assumes nothing.
use Prim.Native.Nat.{◌<◌}
use Rattle.score_scene.specs.Playing.{played_of, Stands}
use Rattle.score_scene.proofs.play.Given as goal

abbrev pub invariant-loop-number : goal.invariant-loop-number
invariant-loop-number l = (l.frames < 10000) × Stands l.p.both l.p.over (played_of l.scene l.number)
