use Rattle.leave_laws.proofs.Ends.{all_ends}
use Rattle.leave_laws.proofs.each_end_of_a_connection_has_its_cause.Goals as goal

pub returns : goal.returns
returns c =
    all_ends c.a_bind_connection_says_what_the_family_says.ensures c.connections_end_for_a_cause.ensures
    c.regular_connections_end_for_a_cause.ensures
