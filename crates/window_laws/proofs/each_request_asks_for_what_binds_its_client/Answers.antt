use Rattle.window_laws.proofs.Asks.{asked_rightly}
use Rattle.window_laws.proofs.each_request_asks_for_what_binds_its_client.Goals as goal

pub returns : goal.returns
returns c = asked_rightly c.a_fit_list_begins_with_all_of_it.ensures c.a_client_is_who_the_family_says.ensures.known
