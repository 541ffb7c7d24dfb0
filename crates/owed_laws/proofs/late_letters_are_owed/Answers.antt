use Rattle.owed_laws.proofs.Clause.{lates_owed}
use Rattle.owed_laws.proofs.late_letters_are_owed.Goals as goal

pub returns : goal.returns
returns c =
    lates_owed c.a_late_letter_is_of_its_clients_own.ensures c.a_connection_gives_no_more_letters_than_are_told.ensures
    c.late_letters_and_answers_were_given.ensures
