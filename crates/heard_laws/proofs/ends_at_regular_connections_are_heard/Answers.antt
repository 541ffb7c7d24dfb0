use Rattle.heard_laws.proofs.Heard.{regular_ends_heard}
use Rattle.heard_laws.proofs.ends_at_regular_connections_are_heard.Goals as goal

pub returns : goal.returns
returns c =
    regular_ends_heard c.a_forward_says_of_its_operation_what_the_family_says.ensures
    c.a_fit_list_begins_with_all_of_it.ensures
