use Rattle.client_laws.proofs.ClientTurns.{client_rows, client_live}
use Rattle.client_laws.proofs.a_client_has_a_row_for_each_live_operation.Goals as goal

pub returns-clause-rows : goal.returns-clause-rows
returns-clause-rows c = client_rows

pub returns-clause-live : goal.returns-clause-live
returns-clause-live c = client_live
