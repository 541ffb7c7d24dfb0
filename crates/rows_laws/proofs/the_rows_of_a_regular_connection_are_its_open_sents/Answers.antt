use Rattle.rows_laws.proofs.Regular.{rows_are_open}
use Rattle.rows_laws.proofs.the_rows_of_a_regular_connection_are_its_open_sents.Goals as goal

pub returns : goal.returns
returns c =
    rows_are_open c.a_forward_says_of_its_operation_what_the_family_says.ensures c.a_fit_list_begins_with_all_of_it.ensures
