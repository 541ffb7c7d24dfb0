use Rattle.upstream_laws.proofs.Expiries.{expiries_due}
use Rattle.upstream_laws.proofs.operations_expire_where_they_are_due.Goals as goal

pub returns : goal.returns
returns c =
    expiries_due c.a_forward_says_of_its_operation_what_the_family_says.ensures c.a_fit_list_begins_with_all_of_it.ensures
    c.a_bind_connection_says_what_the_family_says.ensures
