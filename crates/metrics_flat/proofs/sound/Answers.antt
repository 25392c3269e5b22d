-- `metrics_flat::sound` meets its contract. Assumes nothing.
use mathlib.Core.Path.{◌≡◌, sym}
use native.Mathlib.Omega.{arith}
use lib.ListN.{length, take}
use lib.Seq.{length-take-le}
use Rattle.metrics_flat.proofs.sound.Goals as goal

pub slice_bounds-sound_up_to-end : goal.slice_bounds-sound_up_to-end
slice_bounds-sound_up_to-end c =
    let n = c.requires.0 in
    sym (length-take-le 256 c.args.table.now (omega arith))

pub sound_up_to-requires : goal.sound_up_to-requires
sound_up_to-requires c =
    let n = c.requires.0 in
    let l : length (take 256 c.args.table.now) ≡ 256 = length-take-le 256 c.args.table.now (omega arith) in
    omega arith
