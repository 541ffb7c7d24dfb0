use Rattle.bind_laws.proofs.BindShare.{bind_shares}
use Rattle.bind_laws.proofs.a_bind_connection_keeps_its_share.Goals as goal

pub returns : goal.returns
returns c = record { shares = bind_shares }
