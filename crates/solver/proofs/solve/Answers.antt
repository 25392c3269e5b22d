-- `solver::solve` meets its contract: what the call answers is the one answer. Assumes nothing.
use Rattle.solver.specs.Solution.{answer_is}
use Rattle.solver.proofs.solve.Goals as goal

pub returns : goal.returns
returns c = answer_is _ _ _ _ c.linear_sum_assignment.ensures
