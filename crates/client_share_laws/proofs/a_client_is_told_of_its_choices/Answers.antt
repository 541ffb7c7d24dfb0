use Rattle.client_share_laws.proofs.ClientChoices.{client_busy, client_unavailable}
use Rattle.client_share_laws.proofs.a_client_is_told_of_its_choices.Goals as goal

pub returns-clause-busy : goal.returns-clause-busy
returns-clause-busy c = client_busy

pub returns-clause-unavailable : goal.returns-clause-unavailable
returns-clause-unavailable c = client_unavailable
