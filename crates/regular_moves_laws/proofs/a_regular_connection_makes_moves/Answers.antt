use Rattle.regular_moves_laws.proofs.Follows.{regular_follows, regular_ends}
use Rattle.regular_moves_laws.proofs.a_regular_connection_makes_moves.Goals as goal

pub returns-clause-follows : goal.returns-clause-follows
returns-clause-follows c = regular_follows

pub returns-clause-ends : goal.returns-clause-ends
returns-clause-ends c = regular_ends
