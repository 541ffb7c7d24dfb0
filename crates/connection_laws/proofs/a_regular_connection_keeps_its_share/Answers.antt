use Rattle.connection_laws.proofs.RegularShare.{regular_shares}
use Rattle.connection_laws.proofs.a_regular_connection_keeps_its_share.Goals as goal

pub returns : goal.returns
returns c = record { shares = regular_shares }
