use Rattle.caused_laws.proofs.Sents.{identified}
use Rattle.caused_laws.proofs.a_sent_carries_its_own_clients_identity.Goals as goal

pub returns : goal.returns
returns c = λ s F marked h. identified c.a_client_is_who_the_family_says.ensures.known s F marked h F.connections
