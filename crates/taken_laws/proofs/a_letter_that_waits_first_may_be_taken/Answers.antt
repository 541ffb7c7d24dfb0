use Rattle.taken_laws.proofs.Firsts.{firsts_for_bind, firsts_for_client, firsts_for_desk, firsts_for_regular, desk_of_runs_holds_once}
use Rattle.taken_laws.proofs.a_letter_that_waits_first_may_be_taken.Goals as goal

pub returns-clause-regular : goal.returns-clause-regular
returns-clause-regular c =
    firsts_for_regular c.states_are_of_lists.ensures.states c.letters_are_fit.ensures.fitness
    c.letters_are_fit.ensures.marks c.a_fit_letter_may_be_taken_by_a_connection.ensures.regular

pub returns-clause-bind : goal.returns-clause-bind
returns-clause-bind c =
    firsts_for_bind c.states_are_of_lists.ensures.states c.letters_are_fit.ensures.fitness
    c.letters_are_fit.ensures.marks c.a_fit_letter_may_be_taken_by_a_connection.ensures.bind

pub returns-clause-desk : goal.returns-clause-desk
returns-clause-desk c =
    firsts_for_desk c.states_are_of_lists.ensures.states c.letters_are_fit.ensures.fitness
    c.letters_are_fit.ensures.marks c.states_are_of_lists.ensures.turns
    c.a_fit_letter_may_be_taken_by_the_desk.ensures.desk

pub returns-clause-client : goal.returns-clause-client
returns-clause-client c = firsts_for_client c.a_choice_of_a_run_is_due.ensures.taken

pub returns-clause-once : goal.returns-clause-once
returns-clause-once c =
    desk_of_runs_holds_once c.states_are_of_lists.ensures.states c.letters_are_fit.ensures.fitness
    c.letters_are_fit.ensures.marks c.states_are_of_lists.ensures.turns
    c.a_fit_letter_may_be_taken_by_the_desk.ensures.once
