use Rattle.link_laws.proofs.Entries.{entries_in}
use Rattle.link_laws.proofs.States.{states}
use Rattle.link_laws.proofs.Turns.{turns}
use Rattle.link_laws.proofs.states_are_of_lists.Goals as goal

pub returns-clause-states : goal.returns-clause-states
returns-clause-states c = states

pub returns-clause-turns : goal.returns-clause-turns
returns-clause-turns c = turns

pub returns-clause-entries : goal.returns-clause-entries
returns-clause-entries c = entries_in
