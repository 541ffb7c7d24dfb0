use Rattle.pause_laws.proofs.Owed.{pauses_are_owed}
use Rattle.pause_laws.proofs.a_connection_pauses_as_clients_told_it.Goals as goal

pub returns : goal.returns
returns c = pauses_are_owed
