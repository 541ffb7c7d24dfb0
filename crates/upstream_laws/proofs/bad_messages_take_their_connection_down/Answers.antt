use Rattle.upstream_laws.proofs.BadMessages.{bad_told}
use Rattle.upstream_laws.proofs.bad_messages_take_their_connection_down.Goals as goal

pub returns : goal.returns
returns c =
    bad_told c.a_forward_says_of_its_operation_what_the_family_says.ensures c.a_fit_list_begins_with_all_of_it.ensures
    c.a_bind_connection_says_what_the_family_says.ensures c.a_bind_connection_says_what_its_list_says.ensures.meets
