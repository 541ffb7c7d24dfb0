use Rattle.lload_laws.proofs.ClientGrowth.{operations_grow, count_rises, count_stays}
use Rattle.lload_laws.proofs.operations_grow.Goals as goal

pub returns-clause-grown : goal.returns-clause-grown
returns-clause-grown c = operations_grow

pub returns-clause-count_rises : goal.returns-clause-count_rises
returns-clause-count_rises c = count_rises

pub returns-clause-count_stays : goal.returns-clause-count_stays
returns-clause-count_stays c = count_stays
