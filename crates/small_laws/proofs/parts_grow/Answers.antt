use Rattle.small_laws.proofs.FamilyGrowth.{parts_append, clients_append, connections_append}
use Rattle.small_laws.proofs.parts_grow.Goals as goal

pub returns-clause-entries : goal.returns-clause-entries
returns-clause-entries c = parts_append

pub returns-clause-clients : goal.returns-clause-clients
returns-clause-clients c = clients_append

pub returns-clause-connections : goal.returns-clause-connections
returns-clause-connections c = connections_append
