use Rattle.taken_laws.proofs.Plans.{first_ups_are_linked, first_ups_are_of_plans}
use Rattle.taken_laws.proofs.a_connection_that_is_up_is_of_the_plans_so_far.Goals as goal

pub returns-clause-linked : goal.returns-clause-linked
returns-clause-linked c =
    first_ups_are_linked c.states_are_of_lists.ensures.states c.states_are_of_lists.ensures.turns
    c.letters_are_fit.ensures.fitness c.letters_are_fit.ensures.marks c.parts_are_linked.ensures.links

pub returns-clause-plans : goal.returns-clause-plans
returns-clause-plans c =
    first_ups_are_of_plans (first_ups_are_linked c.states_are_of_lists.ensures.states
    c.states_are_of_lists.ensures.turns c.letters_are_fit.ensures.fitness c.letters_are_fit.ensures.marks
    c.parts_are_linked.ensures.links)
