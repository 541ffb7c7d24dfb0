use Rattle.caused_laws.proofs.HoldersAlone.{holders_alone}
use Rattle.caused_laws.proofs.a_bind_connection_has_one_holder_at_a_time.Goals as goal

pub returns : goal.returns
returns c = holders_alone c.a_bind_connection_says_what_the_family_says.ensures
