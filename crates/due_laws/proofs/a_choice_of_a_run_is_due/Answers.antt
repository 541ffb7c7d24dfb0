use Rattle.due_laws.proofs.Firsts.{first_choices_are_due, firsts_are_fit, taken_choices_are_due}
use Rattle.due_laws.proofs.a_choice_of_a_run_is_due.Goals as goal

pub returns-clause-firsts : goal.returns-clause-firsts
returns-clause-firsts c = firsts_are_fit c.letters_are_fit.ensures.fitness c.letters_are_fit.ensures.marks

pub returns-clause-choices : goal.returns-clause-choices
returns-clause-choices c =
    first_choices_are_due c.states_are_of_lists.ensures.states c.a_fit_choice_is_due.ensures.due
    c.letters_are_fit.ensures.fitness c.letters_are_fit.ensures.marks

pub returns-clause-taken : goal.returns-clause-taken
returns-clause-taken c =
    taken_choices_are_due c.states_are_of_lists.ensures.states c.a_fit_choice_is_due.ensures.due
    c.letters_are_fit.ensures.fitness c.letters_are_fit.ensures.marks
