use Rattle.client_laws.proofs.ClientEnds.{client_ends_once}
use Rattle.client_laws.proofs.a_client_gets_nothing_behind_an_end.Goals as goal

pub returns : goal.returns
returns c = record { ended_once = client_ends_once }
