use Rattle.idle_laws.proofs.Owed.{bind_idles_owed}
use Rattle.idle_laws.proofs.a_leave_that_comes_to_nothing_is_owed.Goals as goal

pub returns : goal.returns
returns c =
    bind_idles_owed c.a_fit_list_begins_with_all_of_it.ensures
    c.a_leave_that_comes_to_nothing_is_of_a_client_that_left.ensures
    c.a_bind_connection_says_what_the_family_says.ensures c.a_leave_is_given_once.ensures
