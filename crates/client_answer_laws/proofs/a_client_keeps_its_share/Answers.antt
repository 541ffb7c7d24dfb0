use Rattle.client_answer_laws.proofs.Shares.{client_shares}
use Rattle.client_answer_laws.proofs.a_client_keeps_its_share.Goals as goal

pub returns : goal.returns
returns c = record { shares = client_shares }
