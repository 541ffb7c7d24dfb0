use Rattle.ended_laws.proofs.DeskTold.{desk_lives}
use Rattle.ended_laws.proofs.the_desk_lives.Goals as goal

pub returns : goal.returns
returns c =
    desk_lives c.a_forward_says_of_its_operation_what_the_family_says.ensures c.a_fit_list_begins_with_all_of_it.ensures
    c.a_bind_connection_says_what_the_family_says.ensures
    c.shares_and_links_give_what_is_said_of_several_lists.ensures
    c.each_request_asks_for_what_binds_its_client.ensures
