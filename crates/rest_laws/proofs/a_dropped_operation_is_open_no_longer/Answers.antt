use Rattle.rest_laws.proofs.Dropped.{dropped_over}
use Rattle.rest_laws.proofs.a_dropped_operation_is_open_no_longer.Goals as goal

pub returns : goal.returns
returns c =
    dropped_over c.a_forward_says_of_its_operation_what_the_family_says.ensures c.a_fit_list_begins_with_all_of_it.ensures
