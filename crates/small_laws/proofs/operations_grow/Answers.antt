use Rattle.small_laws.proofs.ClientGrowth.{operations_grow, count_rises, count_stays, all_operations_grow}
use Rattle.small_laws.proofs.operations_grow.Goals as goal

pub returns-clause-grown : goal.returns-clause-grown
returns-clause-grown c = operations_grow

pub returns-clause-count_rises : goal.returns-clause-count_rises
returns-clause-count_rises c = count_rises

pub returns-clause-count_stays : goal.returns-clause-count_stays
returns-clause-count_stays c = count_stays

pub returns-clause-all : goal.returns-clause-all
returns-clause-all c = all_operations_grow
