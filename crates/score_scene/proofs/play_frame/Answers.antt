-- `score_scene::play_frame` meets its contract. Assumes nothing.
use Prim.Native.Nat.{◌+◌, ◌<◌}
use native.Mathlib.Omega.{arith}
use mir.Facts.{to_z_pos}
use mir.Syntax.{w32}
use Rattle.score_scene.proofs.Runs.{frame_played}
use Rattle.score_scene.proofs.play_frame.Goals as goal

pub returns : goal.returns
returns c =
    let small : c.args.number + 1 < 2147483648 = omega (arith, c.requires) in
    frame_played c.args.scene c.args.number c.args.p.both c.frame_at-n.ensures.shown c.frame_at-n.ensures.lent.four c.frame_at-n.ensures.lent_2.four (to_z_pos w32 small) c.play_frame-step.ensures c.say_step.ensures
