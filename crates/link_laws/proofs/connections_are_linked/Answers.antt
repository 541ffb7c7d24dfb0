use Rattle.link_laws.proofs.ConnectionLinks.{connection_shares_in, connections_give_in, connection_links}
use Rattle.link_laws.proofs.connections_are_linked.Goals as goal

pub returns-clause-shares : goal.returns-clause-shares
returns-clause-shares c = connection_shares_in

pub returns-clause-gives : goal.returns-clause-gives
returns-clause-gives c = connections_give_in

pub returns-clause-beginning : goal.returns-clause-beginning
returns-clause-beginning c = connection_links
