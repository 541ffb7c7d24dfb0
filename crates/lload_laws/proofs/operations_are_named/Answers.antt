use Rattle.lload_laws.proofs.ClientGrowth.{own_names, old_operations, holds_of_named}
use Rattle.lload_laws.proofs.operations_are_named.Goals as goal

pub returns-clause-own : goal.returns-clause-own
returns-clause-own c = own_names

pub returns-clause-old : goal.returns-clause-old
returns-clause-old c = old_operations

pub returns-clause-holds : goal.returns-clause-holds
returns-clause-holds c = holds_of_named
