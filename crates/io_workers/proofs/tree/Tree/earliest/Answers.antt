use Rattle.io_workers.proofs.Forks.{at_Fork, fork-earliest}
use Rattle.io_workers.proofs.tree.Tree.earliest.Goals as goal

pub returns-in-Fork : goal.returns-in-Fork
returns-in-Fork c = fork-earliest (at_Fork c.self.view_is c.self.invariant c.in-Fork.is)
