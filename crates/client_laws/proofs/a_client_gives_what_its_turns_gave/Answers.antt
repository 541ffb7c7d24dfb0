use Rattle.client_laws.proofs.ClientGives.{client_gives_so}
use Rattle.client_laws.proofs.a_client_gives_what_its_turns_gave.Goals as goal

pub returns : goal.returns
returns c = record { gives = client_gives_so }
