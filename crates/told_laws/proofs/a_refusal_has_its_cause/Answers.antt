use Rattle.told_laws.proofs.Came.{refusals_caused}
use Rattle.told_laws.proofs.a_refusal_has_its_cause.Goals as goal

pub returns : goal.returns
returns c =
    refusals_caused c.a_client_is_who_the_family_says.ensures.known c.a_client_is_who_the_family_says.ensures.checks
    c.a_forward_says_of_its_operation_what_the_family_says.ensures c.a_fit_list_begins_with_all_of_it.ensures
    c.a_bind_connection_says_what_the_family_says.ensures c.an_operation_is_sent_once.ensures
