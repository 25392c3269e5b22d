-- `start::least_along` meets its contract: it starts at +infinity. Assumes nothing.
use lib.Ieee.{of_bits}
use Rattle.square.specs.Square.{along}
use Rattle.start.proofs.StepsCode.{least_none}
use Rattle.start.proofs.least_along.Goals as goal

pub loop-t-init : goal.loop-t-init
unfolding of_bits
loop-t-init c = least_none (along c.args.first c.args.step) _
