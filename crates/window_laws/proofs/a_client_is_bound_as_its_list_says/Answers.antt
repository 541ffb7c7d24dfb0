use Rattle.window_laws.proofs.Standing.{clients_bound}
use Rattle.window_laws.proofs.a_client_is_bound_as_its_list_says.Goals as goal

pub returns : goal.returns
returns c = clients_bound c.a_fit_list_begins_with_all_of_it.ensures
