use Rattle.open_laws.proofs.Lives.{all_live}
use Rattle.open_laws.proofs.connections_live.Goals as goal

pub returns : goal.returns
returns c =
    all_live c.a_forward_says_of_its_operation_what_the_family_says.ensures c.a_fit_list_begins_with_all_of_it.ensures
    c.a_bind_connection_says_what_the_family_says.ensures c.a_request_is_sent_where_its_first_check_let_it_go.ensures
