-- `motmetrics_flat::sound` meets its contract. Assumes nothing.
use mathlib.Core.Path.{sym}
use native.Mathlib.Omega.{arith}
use lib.Seq.{length-take-le}
use Rattle.motmetrics_flat.proofs.sound.Goals as goal

pub slice_bounds-sound_up_to-end : goal.slice_bounds-sound_up_to-end
slice_bounds-sound_up_to-end c =
    let n = c.requires in
    sym (length-take-le 256 c.args.table.now (omega arith))
