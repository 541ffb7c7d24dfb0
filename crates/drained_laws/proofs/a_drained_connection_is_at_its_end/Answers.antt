use Rattle.drained_laws.proofs.Drained.{none_drained}
use Rattle.drained_laws.proofs.a_drained_connection_is_at_its_end.Goals as goal

pub returns : goal.returns
returns c = none_drained
