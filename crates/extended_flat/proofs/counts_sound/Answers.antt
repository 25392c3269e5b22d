-- `extended_flat::counts_sound` meets its contract. What was met so far and the counts from place i on decide what all of them do. Assumes nothing.
use mathlib.Core.Path.{sym, ap, ◌∙◌}
use Prim.Native.Nat.{◌≤◌}
use native.Mathlib.Omega.{arith}
use lib.ListN.{length, take, drop_of_length-le}
use lib.Seq.{length-take-le}
use Rattle.square.proofs.Truth.{and-true}
use Rattle.slots.specs.Slots.{counts_sound}
use Rattle.slot_cells.specs.Cells.{slot_of}
use Rattle.columns.specs.Columns.{slots_of}
use Rattle.columns.proofs.Laws.{slots_long}
use Rattle.extended_flat.proofs.Laws.{turn_bad, turn_good}
use Rattle.extended_flat.proofs.counts_sound.Goals as goal
use Rattle.extended_flat.proofs.counts_sound.Goals.{else-not-sound, then-not-sound}

pub loop-i-preserved : goal.loop-i-preserved
loop-i-preserved c =
    let h = c.loop-i-test.true in
    let is = c.slot_of-slot.ensures ∙ ap slot_of c.read.ensures in
    let said = sym c.sound.ensures in
    elim c.if-not-sound.branch [ then-not-sound w ↦ rw w.all-is (turn_bad c.args.run.now c.args.used c.loop-i.i c.requires.0 h c.slot_of-slot.result is c.loop-i.all c.loop-i.invariant (said ∙ w.if-not-sound.true)) | else-not-sound w ↦ rw w.all-is (turn_good c.args.run.now c.args.used c.loop-i.i c.requires.0 h c.slot_of-slot.result is c.loop-i.all c.loop-i.invariant (said ∙ w.if-not-sound.false)) ]

pub returns : goal.returns
unfolding counts_sound
returns c =
    let n = slots_long c.args.run.now in
    let h = c.requires.0 in
    let q = c.loop-i.auto.i-end in
    let k = c.loop-i-test.false in
    let l = length-take-le c.args.used (slots_of c.args.run.now) (omega arith) in
    simp (drop_of_length-le (take c.args.used (slots_of c.args.run.now)) (let k : length (take c.args.used (slots_of c.args.run.now)) ≤ c.loop-i.i = omega arith in k), and-true c.loop-i.all) at c.loop-i.invariant
