use Rattle.client_share_laws.proofs.ClientOrder.{client_in_order}
use Rattle.client_share_laws.proofs.a_client_arrives_first_and_goes_last.Goals as goal

pub returns : goal.returns
returns c = record { in_order = client_in_order }
