use Rattle.op_deadlines.proofs.Forks.{at_Fork, fork-earliest}
use Rattle.op_deadlines.proofs.tree.Tree.earliest.Goals as goal

pub returns-in-Fork : goal.returns-in-Fork
returns-in-Fork c = fork-earliest (at_Fork c.self.view_is c.self.invariant c.in-Fork.is)
