use Rattle.client_share_laws.proofs.ClientOwns.{client_outs_owned}
use Rattle.client_share_laws.proofs.a_client_gets_answers_of_its_own.Goals as goal

pub returns : goal.returns
returns c = record { outs_owned = client_outs_owned }
