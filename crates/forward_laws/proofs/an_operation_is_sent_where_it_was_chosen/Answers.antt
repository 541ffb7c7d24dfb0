use Rattle.forward_laws.proofs.Chosen.{sent_chosen}
use Rattle.forward_laws.proofs.an_operation_is_sent_where_it_was_chosen.Goals as goal

pub returns : goal.returns
returns c = sent_chosen
