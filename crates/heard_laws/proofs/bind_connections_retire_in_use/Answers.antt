use Rattle.heard_laws.proofs.InUse.{binds_retire_in_use}
use Rattle.heard_laws.proofs.bind_connections_retire_in_use.Goals as goal

pub returns : goal.returns
returns c =
    binds_retire_in_use c.a_bind_connection_says_what_the_family_says.ensures
    c.a_drained_connection_is_at_its_end.ensures
