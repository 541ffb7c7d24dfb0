use Rattle.pause_laws.proofs.Said.{client_says}
use Rattle.pause_laws.proofs.a_client_pauses_what_its_list_says.Goals as goal

pub returns : goal.returns
returns c = client_says
