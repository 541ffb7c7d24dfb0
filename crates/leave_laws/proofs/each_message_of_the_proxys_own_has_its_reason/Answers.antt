use Rattle.leave_laws.proofs.Owns.{owns_reasoned}
use Rattle.leave_laws.proofs.each_message_of_the_proxys_own_has_its_reason.Goals as goal

pub returns : goal.returns
returns c =
    owns_reasoned c.a_forward_says_of_its_operation_what_the_family_says.ensures c.a_fit_list_begins_with_all_of_it.ensures
    c.a_bind_connection_says_what_the_family_says.ensures c.a_drop_is_of_an_operation_that_its_client_ended.ensures
