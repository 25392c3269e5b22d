-- `paths::flip` meets its contract: what is flipped so far and a flip from here make the whole flip. Assumes nothing.
use native.Mathlib.Omega.{arith}
use Rattle.paths.proofs.FlipCode as code
use Rattle.paths.proofs.flip.Goals as goal

pub loop-h-init : goal.loop-h-init
loop-h-init c = code.begin _ _ _ _ _ c.requires

pub offset_bounds-rows-row : goal.offset_bounds-rows-row
offset_bounds-rows-row c = omega (arith, code.row_64 _ _ _ _ _ _ _ _ _ c.loop-h.invariant)

pub bounds-rows-row : goal.bounds-rows-row
bounds-rows-row c = code.row_64 _ _ _ _ _ _ _ _ _ c.loop-h.invariant

pub offset_bounds-rows-row-in-loop-h : goal.offset_bounds-rows-row-in-loop-h
offset_bounds-rows-row-in-loop-h c = omega (arith, code.row_64 _ _ _ _ _ _ _ _ _ c.loop-h.invariant)

pub bounds-rows-row-in-loop-h : goal.bounds-rows-row-in-loop-h
bounds-rows-row-in-loop-h c = code.row_64 _ _ _ _ _ _ _ _ _ c.loop-h.invariant

pub offset_bounds-from-col-in-loop-h : goal.offset_bounds-from-col-in-loop-h
offset_bounds-from-col-in-loop-h c = omega (arith, code.prev_64 _ _ _ _ _ _ _ _ _ c.loop-h.invariant c.loop-h-test.true)

pub bounds-from-col-in-loop-h : goal.bounds-from-col-in-loop-h
bounds-from-col-in-loop-h c = code.prev_64 _ _ _ _ _ _ _ _ _ c.loop-h.invariant c.loop-h-test.true

pub loop-h-smaller : goal.loop-h-smaller
loop-h-smaller c = code.less _ _ _ _ _ _ _ _ _ c.loop-h.invariant c.loop-h-test.true

pub loop-h-preserved : goal.loop-h-preserved
loop-h-preserved c = code.turn _ _ _ _ _ _ _ _ _ c.loop-h.invariant c.loop-h-test.true

pub returns : goal.returns
returns c = code.finish _ _ _ _ _ _ _ _ _ c.loop-h.invariant (omega arith)
