use Rattle.caused_laws.proofs.Checks.{caused_by_checks}
use Rattle.caused_laws.proofs.clients_keep_what_their_checks_say.Goals as goal

pub returns : goal.returns
returns c = caused_by_checks c.a_client_is_who_the_family_says.ensures.known
