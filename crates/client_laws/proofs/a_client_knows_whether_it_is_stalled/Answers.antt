use Rattle.client_laws.proofs.ClientStalls.{client_stalls}
use Rattle.client_laws.proofs.a_client_knows_whether_it_is_stalled.Goals as goal

pub returns : goal.returns
returns c = record { stalls = client_stalls }
