use Rattle.caused_laws.proofs.Expiries.{expired_binds_told}
use Rattle.caused_laws.proofs.an_expired_bind_takes_its_connection_down.Goals as goal

pub returns : goal.returns
returns c = expired_binds_told c.a_forward_says_of_its_operation_what_the_family_says.ensures
