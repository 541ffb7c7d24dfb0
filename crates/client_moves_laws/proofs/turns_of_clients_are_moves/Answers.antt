use Rattle.client_moves_laws.proofs.ClientFollowing.{client_ends, client_follows}
use Rattle.client_moves_laws.proofs.turns_of_clients_are_moves.Goals as goal

pub returns-clause-inputs : goal.returns-clause-inputs
returns-clause-inputs c = client_follows

pub returns-clause-ends : goal.returns-clause-ends
returns-clause-ends c = client_ends
