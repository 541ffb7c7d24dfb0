use Rattle.upstream_laws.proofs.Downs.{regular_ends}
use Rattle.upstream_laws.proofs.regular_connections_end_for_a_cause.Goals as goal

pub returns : goal.returns
returns c =
    regular_ends c.a_forward_says_of_its_operation_what_the_family_says.ensures c.a_fit_list_begins_with_all_of_it.ensures
