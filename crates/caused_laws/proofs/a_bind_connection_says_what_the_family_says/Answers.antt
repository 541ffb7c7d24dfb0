use Rattle.caused_laws.proofs.Binds.{connections_say}
use Rattle.caused_laws.proofs.a_bind_connection_says_what_the_family_says.Goals as goal

pub returns : goal.returns
returns c =
    connections_say c.a_forward_says_of_its_operation_what_the_family_says.ensures c.a_fit_list_begins_with_all_of_it.ensures
    c.a_bind_connection_says_what_its_list_says.ensures.says c.a_bind_connection_says_what_its_list_says.ensures.meets
