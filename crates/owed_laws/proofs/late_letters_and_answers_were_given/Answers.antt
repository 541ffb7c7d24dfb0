use Rattle.owed_laws.proofs.Owed.{lates_taken}
use Rattle.owed_laws.proofs.late_letters_and_answers_were_given.Goals as goal

pub returns : goal.returns
returns c =
    lates_taken c.a_late_letter_is_of_its_clients_own.ensures c.a_client_is_who_the_family_says.ensures.known
    c.a_client_is_who_the_family_says.ensures.checks c.a_request_is_sent_where_its_first_check_let_it_go.ensures
