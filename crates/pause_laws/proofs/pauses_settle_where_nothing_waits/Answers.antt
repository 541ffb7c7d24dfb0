use Rattle.pause_laws.proofs.Rest.{pauses_settle}
use Rattle.pause_laws.proofs.pauses_settle_where_nothing_waits.Goals as goal

pub returns : goal.returns
returns c = pauses_settle
