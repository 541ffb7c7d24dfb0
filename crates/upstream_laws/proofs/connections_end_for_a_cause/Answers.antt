use Rattle.upstream_laws.proofs.Ends.{ends_caused}
use Rattle.upstream_laws.proofs.connections_end_for_a_cause.Goals as goal

pub returns : goal.returns
returns c =
    ends_caused c.a_forward_says_of_its_operation_what_the_family_says.ensures c.a_fit_list_begins_with_all_of_it.ensures
    c.a_bind_connection_says_what_the_family_says.ensures
