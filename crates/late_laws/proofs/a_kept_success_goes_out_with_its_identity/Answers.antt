use Rattle.late_laws.proofs.Successes.{successes_known}
use Rattle.late_laws.proofs.a_kept_success_goes_out_with_its_identity.Goals as goal

pub returns : goal.returns
returns c =
    successes_known c.an_operation_is_sent_once.ensures c.a_forward_says_of_its_operation_what_the_family_says.ensures
    c.a_fit_list_begins_with_all_of_it.ensures c.a_bind_connection_says_what_the_family_says.ensures
    c.an_answer_of_the_proxys_own_has_its_cause.ensures
