use Rattle.small_laws.proofs.ClientGrowth.{own_names, none_beyond, holds_of_named, named_is_there}
use Rattle.small_laws.proofs.operations_are_named.Goals as goal

pub returns-clause-own : goal.returns-clause-own
returns-clause-own c = own_names

pub returns-clause-none_beyond : goal.returns-clause-none_beyond
returns-clause-none_beyond c = none_beyond

pub returns-clause-holds : goal.returns-clause-holds
returns-clause-holds c = holds_of_named

pub returns-clause-there : goal.returns-clause-there
returns-clause-there c = named_is_there
