use Rattle.run_laws.proofs.Shares.{runs_are_shared}
use Rattle.run_laws.proofs.parts_keep_their_shares_in_runs.Goals as goal

pub returns : goal.returns
returns c =
    runs_are_shared c.a_fit_list_begins_with_all_of_it.ensures c.states_are_of_lists.ensures.entries c.letters_are_fit.ensures.fitness
    c.the_desk_is_linked.ensures.shares c.clients_are_linked.ensures.shares c.connections_are_linked.ensures.shares
