-- `scene_rows::put_rows` meets its contract: the rows passed so far are laid. Assumes nothing.
use borrow.Author.Rules.{rules}
use mir.Facts.{to_z-of_z}
use Rattle.scene_rows.proofs.Rows.{pos_fits, none_laid, row_laid}
use Rattle.scene_rows.proofs.put_rows.Goals as goal

pub loop-i-init : goal.loop-i-init
loop-i-init c = (search rules, none_laid _ _ _ _)

pub loop-i-preserved : goal.loop-i-preserved
loop-i-preserved c =
    let small = to_z-of_z (pos_fits _ c.id.ensures.1) in (
      search rules,
      row_laid c.args.rows.now c.args.first c.loop-i.i c.loop-i.ids _ c.loop-i.boxes _ (search rules) c.loop-i.invariant.1 (rw c.id.ensures.0 small) c.put_box.ensures.boxes_after,
    )
