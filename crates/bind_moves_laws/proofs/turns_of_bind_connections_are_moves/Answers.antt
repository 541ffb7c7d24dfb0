use Rattle.bind_moves_laws.proofs.BindFollowing.{bind_ends, bind_follows}
use Rattle.bind_moves_laws.proofs.turns_of_bind_connections_are_moves.Goals as goal

pub returns-clause-inputs : goal.returns-clause-inputs
returns-clause-inputs c = bind_follows

pub returns-clause-ends : goal.returns-clause-ends
returns-clause-ends c = bind_ends
