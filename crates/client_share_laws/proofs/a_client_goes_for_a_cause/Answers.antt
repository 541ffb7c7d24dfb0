use Rattle.client_share_laws.proofs.ClientGoes.{client_gone}
use Rattle.client_share_laws.proofs.ClientNotices.{client_notices}
use Rattle.client_share_laws.proofs.a_client_goes_for_a_cause.Goals as goal

pub returns-clause-gone : goal.returns-clause-gone
returns-clause-gone c = client_gone

pub returns-clause-notices : goal.returns-clause-notices
returns-clause-notices c = client_notices
