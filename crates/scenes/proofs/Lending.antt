-- A side in memory that was lent. Assumes nothing.
use mathlib.Core.Path.{◌≡◌, sym}
use mathlib.Core.List.{List}
use Prim.Native.Nat.{ℕ, ◌*◌, ◌≤◌}
use native.Mathlib.Omega.{arith}
use lib.IntN.{ℤ}
use lib.Ieee.{Float}
use lib.ListN.{length}
use lib.Seq.{length-take-le}
use Rattle.scenes.specs.Frames.{Lent}

pub lent : {n floats : ℕ} {ids : List ℤ} {boxes : List Float} → n ≤ 64 → floats ≡ n * 4 → 64 ≤ length ids → 256 ≤ length boxes → Lent n floats ids boxes
lent {n} {floats} {ids} {boxes} most four i b =
    let here : n ≤ length ids = omega arith in
    let there : floats ≤ length boxes = omega arith in
    record { most = most; four = four; ids_there = (here, sym (length-take-le n ids here)); boxes_there = (there, sym (length-take-le floats boxes there)) }
