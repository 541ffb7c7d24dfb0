use Rattle.link_laws.proofs.ClientLinks.{clients_give_in, client_links, client_marks_in, client_shares_in}
use Rattle.link_laws.proofs.clients_are_linked.Goals as goal

pub returns-clause-gives : goal.returns-clause-gives
returns-clause-gives c = clients_give_in

pub returns-clause-beginning : goal.returns-clause-beginning
returns-clause-beginning c = client_links

pub returns-clause-marks : goal.returns-clause-marks
returns-clause-marks c = client_marks_in

pub returns-clause-shares : goal.returns-clause-shares
returns-clause-shares c = client_shares_in
