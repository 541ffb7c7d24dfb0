use Rattle.leave_laws.proofs.Idles.{idles_end_nothing}
use Rattle.leave_laws.proofs.a_drop_comes_to_nothing_where_nothing_is_to_end.Goals as goal

pub returns : goal.returns
returns c =
    idles_end_nothing c.a_forward_says_of_its_operation_what_the_family_says.ensures
    c.a_fit_list_begins_with_all_of_it.ensures c.a_drop_is_of_an_operation_that_its_client_ended.ensures
