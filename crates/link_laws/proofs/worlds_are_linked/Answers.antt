use Rattle.link_laws.proofs.Linked.{worlds_linked}
use Rattle.link_laws.proofs.worlds_are_linked.Goals as goal

pub returns : goal.returns
returns c = record { linked = worlds_linked c.a_fit_list_begins_with_all_of_it.ensures }
