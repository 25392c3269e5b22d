-- `score_scene::play` meets its contract: so far the run stands after number frames. Assumes nothing.
use borrow.Author.Rules.{rules}
use Rattle.score_scene.proofs.Runs.{played_none, played_more, played_over}
use Rattle.score_scene.proofs.play.Goals as goal

pub loop-number-init : goal.loop-number-init
loop-number-init c = (search rules, played_none _ _ c.start-both.ensures)

pub returns-then-p : goal.returns-then-p
returns-then-p c = played_over _ c.loop-number.number _ (search rules) c.loop-number.invariant.1 c.if-p.true

pub loop-number-preserved : goal.loop-number-preserved
loop-number-preserved c =
    (search rules, played_more _ c.loop-number.number c.loop-number.invariant.1 c.if-p.false c.play_frame-p.ensures)
