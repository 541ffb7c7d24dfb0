use Rattle.upstream_laws.proofs.Ids.{ids_right}
use Rattle.upstream_laws.proofs.identifiers_are_given_in_order.Goals as goal

pub returns : goal.returns
returns c =
    ids_right c.a_forward_says_of_its_operation_what_the_family_says.ensures c.a_fit_list_begins_with_all_of_it.ensures
    c.a_bind_connection_says_what_the_family_says.ensures
